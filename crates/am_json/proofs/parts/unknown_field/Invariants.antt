use Rattle.std.proofs.Common.{◌≡◌, map}
use Rattle.serde_json.specs.View.{members_view}
use Rattle.am_json.specs.Json.{unknown_field}
use Rattle.am_json.proofs.Keys.{Ascends}
use Rattle.am_json.proofs.parts.unknown_field.Given as goal

-- the members that are left have the same least unknown field as all members
abbrev pub invariant-loop-key : goal.invariant-loop-key
invariant-loop-key l = record {
  same : unknown_field (map (λ name. name.now) l.known) (members_view l.key-iterator)
      ≡ unknown_field (map (λ name. name.now) l.known) (members_view l.members.entries);
  ascends : Ascends l.key-iterator;
}
