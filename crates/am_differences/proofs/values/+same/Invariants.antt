use Rattle.std.proofs.Common.{◌≡◌}
use Rattle.serde_json.specs.View.{members_view}
use Rattle.am_differences.specs.SameValue.{same_members}
use Rattle.am_differences.proofs.ValueSteps.{SameFrom}
use Rattle.am_differences.proofs.values.+same.Given as goal

abbrev pub invariant-same_items-loop-i : goal.invariant-same_items-loop-i
invariant-same_items-loop-i l = SameFrom l.ones l.others l.i

-- the members that are left are the same exactly if all members are
abbrev pub invariant-same_members-loop-key : goal.invariant-same_members-loop-key
invariant-same_members-loop-key l =
    same_members (members_view l.key-iterator) (members_view l.left)
    ≡ same_members (members_view l.ones.entries) (members_view l.others.entries)
