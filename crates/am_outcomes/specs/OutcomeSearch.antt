-- What is prepared for the search for outcomes. (This project's own.)
use Rattle.std.specs.Prelude.{◌≡◌, length}
use Rattle.am_labels.specs.Space.{Space}
use Rattle.am_first_sets.specs.PossibleSets.{possible_space}
use Rattle.am_outcomes.specs.Configurations.{Configurations, tried_of}
use Rattle.am_outcomes.specs.declared.outcome_search.OutcomeSearch.{OutcomeSearch}
use Rattle.am_outcomes.specs.Routers.{AreRoutedOver, routed_configurations}
use Rattle.am_outcomes.specs.Steps.{AreSteps, GoesThrough}

-- The space that is searched, and the configurations under which its choices have outcomes.
abbrev pub searched_space : OutcomeSearch → Space
searched_space search = search.space.now

abbrev pub searched_configurations : OutcomeSearch → Configurations
searched_configurations search = routed_configurations search.routed

-- The label sets are those of the space, the steps those of all that is tried for the outcomes, and
-- the cubes of routes are over the labels of the space.
pub record IsPrepared (search : OutcomeSearch) : Type 0 where
  pub space : possible_space search.possible ≡ searched_space search
  pub are_steps : AreSteps search.steps.items
  pub goes : GoesThrough (searched_space search).labels (tried_of (searched_configurations search))
      search.steps.items (length search.steps.items)
  pub over : AreRoutedOver (searched_space search).labels search.routed
