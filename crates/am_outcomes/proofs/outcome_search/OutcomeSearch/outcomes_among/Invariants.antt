use Rattle.std.proofs.Common.{◌≡◌, [], map, take}
use Rattle.am_outcomes.specs.OutcomeSearch.{searched_configurations, searched_space}
use Rattle.am_outcomes.specs.OutcomesView.{entry_view}
use Rattle.am_outcomes.proofs.Gathered.{outcomes_after}
use Rattle.am_outcomes.proofs.outcome_search.OutcomeSearch.outcomes_among.Given as goal

-- the outcomes of the choices so far
abbrev pub invariant-loop-choice : goal.invariant-loop-choice
invariant-loop-choice l =
    map entry_view l.firsts.entries
    ≡ outcomes_after (searched_space l.self) (searched_configurations l.self) [] (take l.choice-index l.choice-items)
