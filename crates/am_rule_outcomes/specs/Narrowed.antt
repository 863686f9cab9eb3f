-- The outcomes of narrowed universes. (This project's own.)
use Rattle.std.specs.Prelude.{ℕ, List, Option, Some, Contains}
use Rattle.std.specs.List.{AllByRecursion}
use Rattle.am_universe.specs.Universe.{Label, sizes}
use Rattle.am_universe.specs.Choice.{IsWhole}
use Rattle.am_labels.specs.Space.{Space}
use Rattle.am_outcomes.specs.Configurations.{Configurations, tried_of}
use Rattle.am_outcomes.specs.Outcomes.{outcomes_of}
use Rattle.am_outcomes.specs.Ways.{HaveManyWays}
use Rattle.am_rule_outcomes.specs.Narrowing.{narrowed}

-- Some labels, and the outcomes of some of their choices.
pub record Narrowed : Type 0 where
  pub labels : List Label
  pub outcomes : List (List (List ℕ) × List ℕ)

-- Each choice of the outcomes is a whole one of the universe.
abbrev pub HaveWholeChoices : Narrowed → Type 0
HaveWholeChoices n = AllByRecursion (λ o. IsWhole (sizes n.labels) o.1) n.outcomes

-- The outcomes of the choices that are left of a space if it is narrowed; and the same, with the
-- labels of the space.
abbrev pub left_outcomes :
    Space → Configurations → List (Option ℕ) → List (List (List ℕ) × List ℕ)
left_outcomes s k kept = outcomes_of (narrowed s kept) k

abbrev pub narrowed_outcomes : Space → Configurations → List (Option ℕ) → Narrowed
narrowed_outcomes s k kept = record { labels = s.labels; outcomes = left_outcomes s k kept }

-- For one of some narrowings, there are more ways through the routes than there is room for.
pub record AreTooMany (s : Space) (k : Configurations) (all : List (Option (List (Option ℕ))))
    : Type 0 where
  pub kept : List (Option ℕ)
  pub one : Contains all (Some kept)
  pub many : HaveManyWays (narrowed s kept) (tried_of k)
