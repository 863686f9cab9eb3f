use Rattle.std.proofs.Common.{ℕ, List}
use Rattle.serde_json.specs.Data.{Data}
use Rattle.serde_json.specs.View.{view, members_view}
use Rattle.am_json.specs.Json.{member_list}
use Rattle.am_json.specs.Reading.{Gives, Reading, read_each}
use Rattle.am_json.proofs.Readings.{Leads}
use Rattle.am_json.proofs.each_item.read_each_member.Given as goal

-- reading the members that are left, after those so far, gives what reading all members gives
abbrev pub invariant-loop-name : goal.invariant-loop-name
invariant-loop-name g l =
    (reading : g.row.T.Denot → (List ℕ × Data) → Reading g.row.T.Denot)
    → ((before : _) (name : _) (value : _) (found : _) → goal.F-post g l.read before name value found
    → Gives (λ x. x) found (reading before (name.now, view value.now)))
    → Leads (read_each reading l.all (member_list (members_view l.name-iterator)))
    (read_each reading l.fn.first (member_list (members_view l.members.entries)))
