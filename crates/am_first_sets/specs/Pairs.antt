-- Pairs of choices of a space that have the same positions at some labels.
use Rattle.std.specs.Prelude.{◌≡◌, ℕ, List, IsTrue}
use Rattle.am_labels.specs.Space.{Space, IsChoiceOf}
use Rattle.am_judged_lists.specs.declared.pairs.Side.{Side}
use Rattle.am_judged_lists.specs.declared.pairs.Side.TheVariants.{First, Second}
use Rattle.am_judged_lists.specs.Pairs.{are_same_at, seen}
use Rattle.am_first_sets.specs.declared.pairs.Pairs.{Pairs}
use Rattle.am_first_sets.specs.declared.possible_choices.PossibleChoices.{PossibleChoices}
use Rattle.am_first_sets.specs.PossibleChoices.{IsPossible}

-- Two choices of a space are a pair if they have the same positions at some labels.
-- Source: own choice.
-- Example: if `team` is the only shared label, a critical alert and a warning, both of the team
-- `db`, are a pair.
pub record IsPairOf (s : Space) (shared c d : List ℕ) : Type 0 where
  pub first : IsChoiceOf s c
  pub second : IsChoiceOf s d
  pub same : IsTrue (are_same_at shared c d)

-- The choices that stand for pairs, and what is seen of one of them: the choice of a side.
abbrev pub pair_choices : Pairs → PossibleChoices
pair_choices pairs = pairs.choices

abbrev pub side_of : Pairs → Side → List ℕ → List ℕ
side_of pairs side e = seen side pairs.shared.items pairs.labels e

-- The pairs are those of a space: the two sides of each possible choice are a pair, and each pair
-- is the two sides of a possible choice.
pub record ArePairsOf (s : Space) (shared : List ℕ) (pairs : Pairs) : Type 0 where
  pub sides : (e : List ℕ) → IsPossible pairs.choices e
      → IsPairOf s shared (side_of pairs First e) (side_of pairs Second e)
  pub every : (c d : List ℕ) → IsPairOf s shared c d → (e : List ℕ) × IsPossible pairs.choices e
      × (side_of pairs First e ≡ c) × (side_of pairs Second e ≡ d)
