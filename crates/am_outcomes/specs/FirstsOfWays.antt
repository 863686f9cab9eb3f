-- The first choice of each way.
use Rattle.std.specs.Prelude.{◌≡◌, ℕ, List, Contains, false}
use Rattle.am_labels.specs.Space.{Space, IsChoiceOf}
use Rattle.am_search.specs.Start.{comes_before}
use Rattle.am_outcomes.specs.Configurations.{Tried}
use Rattle.am_outcomes.specs.Ways.{way_of}

-- A choice of the space before which no other choice with its way comes.
pub record IsFirstOfWay (s : Space) (t : Tried) (first : List ℕ) : Type 0 where
  pub choice : IsChoiceOf s first
  pub before : (c : List ℕ) → IsChoiceOf s c → way_of s t c ≡ way_of s t first
      → comes_before c first ≡ false

-- Each of some choices is the first of its way, and each choice of the space has the way of one of
-- them.
pub record AreFirstsOfWays (s : Space) (t : Tried) (firsts : List (List ℕ)) : Type 0 where
  pub each : (first : List ℕ) → Contains firsts first → IsFirstOfWay s t first
  pub all : (c : List ℕ) → IsChoiceOf s c
      → (first : List ℕ) × Contains firsts first × (way_of s t first ≡ way_of s t c)
