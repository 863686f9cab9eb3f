-- Walks through the routes and the silences, from step to step.
use Rattle.std.specs.Prelude.{◌≡◌, ◌≤◌, ◌<◌, ◌+◌, ℕ, List, ◌++◌, length, Bool, IsTrue}
use Rattle.std.specs.Prelude.{slice_get, Option, None, Some, if◌then◌else◌}
use Rattle.std.specs.Borrow.{Bor}
use Rattle.std.specs.List.{AllByRecursion, count_by}
use Rattle.am_labels.specs.Space.{Space, IsChoiceOf}
use Rattle.am_judged_lists.specs.Boxes.{IsInBox}
use Rattle.am_judged_lists.specs.Cube.{MaskedLabels, matches}
use Rattle.am_first_sets.specs.Meeting.{meets_cubes}
use Rattle.am_outcomes.specs.Configurations.{Tried}
use Rattle.am_outcomes.specs.declared.steps.Step.{Step}
use Rattle.am_outcomes.specs.declared.walks.Walk.{Walk}
use Rattle.am_outcomes.specs.Steps.{AreSteps, GoesFrom}
use Rattle.am_outcomes.specs.Ways.{way_of}

-- A choice is one of a walk: it matches the wanted cubes and none of the unwanted ones.
abbrev pub is_on : List ℕ → Walk → Bool
is_on c walk = meets_cubes walk.wanted.items walk.unwanted.items c

-- The box of a walk whose choices are known to be on it: one of its own, or the box in which all
-- its choices are.
abbrev pub own_or : Option (List (List Bool)) → List (List Bool) → List (List Bool)
own_or None within = within
own_or (Some some) within = some

abbrev pub known_box : Walk → List (List Bool)
known_box walk = own_or walk.some walk.within

-- All choices of a box meet the cubes.
abbrev pub AreAllOn : Space → List (Bor MaskedLabels) → List (Bor MaskedLabels) → List (List Bool)
    → Type 0
AreAllOn all wanted unwanted b =
    (c : List ℕ) → IsInBox b c → IsChoiceOf all c × IsTrue (meets_cubes wanted unwanted c)

-- The choices of a walk are in its box, and those that are known are among them.
pub record AreBoxesOf (all : Space) (walk : Walk) : Type 0 where
  pub within : (c : List ℕ) → IsChoiceOf all c → IsTrue (is_on c walk) → IsInBox walk.within c
  pub known : AreAllOn all walk.wanted.items walk.unwanted.items (known_box walk)

-- Each choice of a space is one of another.
abbrev pub IsPartOf : Space → Space → Type 0
IsPartOf s all = (c : List ℕ) → IsChoiceOf s c → IsChoiceOf all c

-- A walk goes through the choices of `s`, a part of the space `all`. Those that are on it are the
-- ones whose ways begin as the walk did. From its next step on, each goes the rest of its way. All
-- of them are in the box of the walk, and those of the box that is known are among them.
pub record IsWalk (all s : Space) (t : Tried) (steps : List Step) (walk : Walk) : Type 0 where
  pub near : walk.next ≤ length steps
  pub own : (c : List ℕ) → IsChoiceOf all c → IsTrue (is_on c walk) → IsChoiceOf s c
  pub boxes : AreBoxesOf all walk
  pub begun : List Bool
  pub goes : (c : List ℕ) → IsChoiceOf s c → IsTrue (is_on c walk)
      → (rest : List Bool) × (way_of s t c ≡ begun ++ rest) × GoesFrom steps walk.next c rest
  pub every : (c : List ℕ) → IsChoiceOf s c
      → (rest : List Bool) → way_of s t c ≡ begun ++ rest → IsTrue (is_on c walk)

-- The first walk is at a step, and the choices on it are those that a cube matches.
pub record IsFirstWalk (all : Space) (cube : MaskedLabels) (next : ℕ) (walk : Walk)
    : Type 0 where
  pub at : walk.next ≡ next
  pub on : (c : List ℕ) → is_on c walk ≡ matches cube c
  pub boxes : AreBoxesOf all walk

-- A walk is followed by others, at most two, which are nearer to the end: each of its choices is on
-- one of them, and no other choice is on any.
pub record AreBranches (all s : Space) (t : Tried) (steps : List Step) (walk : Walk)
    (branches : List Walk) : Type 0 where
  pub each : AllByRecursion (IsWalk all s t steps) branches
  pub nearer : AllByRecursion (λ branch. branch.next < walk.next) branches
  pub at_most : length branches ≤ 2
  pub split : (c : List ℕ) → IsChoiceOf s c
      → count_by (is_on c) branches ≡ (if is_on c walk then 1 else 0)

-- The walks that were there are followed by the branches of one more.
abbrev pub AddsBranches : Space → List Walk → Walk → Step → List Walk → Type 0
AddsBranches all old walk step new =
    (s : Space) (t : Tried) (steps : List Step) (k : ℕ) → IsPartOf s all
    → IsWalk all s t steps walk → walk.next ≡ k + 1
    → slice_get steps k ≡ Some step → AreSteps steps
    → (branches : List Walk) × (new ≡ old ++ branches) × AreBranches all s t steps walk branches
