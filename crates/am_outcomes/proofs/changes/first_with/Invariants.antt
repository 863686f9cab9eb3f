use Rattle.std.proofs.Common.{◌≡◌, drop}
use Rattle.std.specs.List.{find}
use Rattle.am_outcomes.specs.Changes.{is_only_among, without_groups}
use Rattle.am_outcomes.specs.OutcomesView.{names_on}
use Rattle.am_outcomes.proofs.changes.first_with.Given as goal

-- the changes that are left decide
abbrev pub invariant-loop-change : goal.invariant-loop-change
invariant-loop-change l =
    find (λ change. is_only_among (names_on l.side change.0) (names_on l.other change.0) l.name)
    (without_groups (drop l.change-index l.changes))
    ≡ find (λ change. is_only_among (names_on l.side change.0) (names_on l.other change.0) l.name)
    (without_groups l.changes)
