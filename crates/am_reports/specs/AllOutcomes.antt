-- The outcomes of every alert that counts, under one configuration or under two. (This project's
-- own.)
use Rattle.std.specs.Prelude.{◌≡◌, ℕ, List}
use Rattle.am_universe.specs.Universe.{Label}
use Rattle.am_universe.specs.LabelSet.{label_set_of}
use Rattle.am_labels.specs.Space.{Space}
use Rattle.am_classes.specs.declared.alphabet.Alphabet.{Alphabet}
use Rattle.am_every_alert.specs.EveryAlert.{IsAlertOf}
use Rattle.am_outcomes.specs.Outcomes.{AreOutcomesOf, outcomes_of}
use Rattle.am_every_alert.specs.Deciding.{space_of}
use Rattle.am_outcomes.specs.Configurations.{Configurations}
use Rattle.am_reports.specs.Made.{StandsForAll}

-- The outcomes are those of every alert that counts. The labels are those of a universe that stands
-- for all of these alerts. The outcomes are in declared order of the first choices that have them,
-- and each is shown with that first choice. What is shown is true; each alert that counts has one
-- of the outcomes; and no two of them are the same.
-- Source: own choice.
-- Example: if alerts of the team `db` go to the receiver at position 1 and all others to the one at
-- 0, there are two outcomes, whatever labels the alerts have. One is 0, shown with `{}`, and the
-- other is 1, shown with `{team="db"}`.
pub record AreAllOutcomes (a : Alphabet) (s : Space) (k : Configurations) (labels : List Label)
    (outcomes : List (List (List ℕ) × List ℕ)) : Type 0 where
  pub stands : StandsForAll a s.impossible k labels
  pub order : outcomes ≡ outcomes_of (space_of s.impossible labels) k
  pub are : AreOutcomesOf (IsAlertOf a s) k (label_set_of labels) outcomes
