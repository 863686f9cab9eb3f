-- What is tried on alerts as steps, one behind the other.
use Rattle.std.specs.Prelude.{◌≡◌, ◌≤◌, ◌+◌, ◌++◌, ℕ, List, [], ◌∷◌, Bool, slice_get, Some}
use Rattle.std.specs.Prelude.{if◌then◌else◌}
use Rattle.am_universe.specs.Universe.{Label, sizes}
use Rattle.am_universe.specs.Choice.{IsWhole}
use Rattle.am_universe.specs.LabelSet.{label_set_of}
use Rattle.am_config.specs.ConfigFile.{RouteTree}
use Rattle.am_eval.specs.Routing.{is_last}
use Rattle.am_judged_lists.specs.Cube.{matches}
use Rattle.am_outcomes.specs.Configurations.{Tried}
use Rattle.am_outcomes.specs.declared.steps.Step.{Step}
use Rattle.am_outcomes.specs.Ways.{way_at, way}

-- A step is named by its position plus one; 0 is the end. The steps that may come after a step
-- stand before it, or are the end.
abbrev pub AreSteps : List Step → Type 0
AreSteps steps =
    (k : ℕ) (step : Step) → slice_get steps k ≡ Some step
    → (step.matched ≤ k) × (step.unmatched ≤ k)

-- The step after a step, for a choice that its cube matches or does not.
abbrev pub step_after : Step → Bool → ℕ
step_after step matched = if matched then step.matched else step.unmatched

-- From a step on, a choice goes this way: its cubes say so, from each step to the next, and at the
-- end nothing is left of the way.
-- Source: own choice.
-- Example: let step 2 lead to step 1 if its cube matches and to the end if not, and let step 1 lead
-- to the end. From step 2 on, a choice that neither cube matches goes the way that is only false.
-- One that only the cube of step 2 matches goes the way true and false.
abbrev pub GoesFrom : List Step → ℕ → List ℕ → List Bool → Type 0
GoesFrom steps next choice [] = next ≡ 0
GoesFrom steps next choice (matched ∷ way) =
    (k : ℕ) × (step : Step) × (next ≡ k + 1) × (slice_get steps k ≡ Some step)
    × (matches step.cube choice ≡ matched) × GoesFrom steps (step_after step matched) choice way

-- From a step on, each whole choice goes its way through all that is tried.
abbrev pub GoesThrough : List Label → Tried → List Step → ℕ → Type 0
GoesThrough u t steps first =
    (c : List ℕ) → IsWhole (sizes u) c → GoesFrom steps first c (way (label_set_of u c) t)

-- More steps are those of a route and of all routes below it. From the first of them on, each whole
-- choice goes its way there, and then what it goes from `end` on if the route is the last that is
-- tried, and from `next` on if it is not.
abbrev pub GoesPast :
    List Label → RouteTree → List Step → ℕ → ℕ → List Step → ℕ → Type 0
GoesPast u t old next end new first =
    (c : List ℕ) → IsWhole (sizes u) c → (later last : List Bool) → GoesFrom old next c later
    → GoesFrom old end c last
    → GoesFrom new first c (way_at (label_set_of u c) t
    ++ (if is_last (label_set_of u c) t then last else later))
