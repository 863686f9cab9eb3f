-- The choices among which a search looks, and what a search finds.
use Rattle.std.specs.Prelude.{◌≡◌, ◌↔◌, ℕ, List, Bool, IsTrue, length}
use Rattle.am_universe.specs.Universe.{sizes}
use Rattle.am_universe.specs.Choice.{IsWhole}
use Rattle.am_labels.specs.Space.{Space, is_possible_choice}
use Rattle.am_judged_lists.specs.Boxes.{IsInBox, HasChoice}
use Rattle.am_judged_lists.specs.Cube.{MaskedLabels}
use Rattle.am_first_sets.specs.declared.possible_choices.PossibleChoices.{PossibleChoices}
use Rattle.am_first_sets.specs.Meeting.{is_possible_by}

-- A choice is among them: it is in the box and matches none of the cubes.
abbrev pub IsPossible : PossibleChoices → List ℕ → Type 0
IsPossible p c = IsInBox p.all c × IsTrue (is_possible_by p.impossible.items c)

-- The choices of a box are what a search looks for: there is some choice, all are among those where
-- the search looks, and all pass a test.
-- Source: own choice.
-- Example: if the severities are `critical` and `info`, a box of the team `db` and both severities
-- is, for the test that the team is `db`.
pub record AreFound (Is : List ℕ → Type 0) (test : List ℕ → Bool) (b : List (List Bool)) : Type 0
  where
    pub some : HasChoice b
    pub each : (c : List ℕ) → IsInBox b c → Is c × IsTrue (test c)

-- The cubes are those of the impossible lists of a space: a whole choice is possible by the cubes
-- exactly if it is possible in the space.
abbrev pub KnowsPossible : Space → List MaskedLabels → Type 0
KnowsPossible s impossible =
    (c : List ℕ) → IsWhole (sizes s.labels) c
    → is_possible_by impossible c ≡ is_possible_choice s c

-- The choices are those of a space.
pub record AreChoicesOf (s : Space) (p : PossibleChoices) : Type 0 where
  pub long : length p.all ≡ length s.labels
  pub whole : (c : List ℕ) → IsInBox p.all c ↔ IsWhole (sizes s.labels) c
  pub possible : KnowsPossible s p.impossible.items
