-- The box of the walk of all choices that a cube matches, and the first choice of a walk.
use Rattle.std.proofs.Common.{◌≡◌, ◌↔◌, ℕ, Bool, true, false, List, [], ◌∷◌, Bor, Some, refl, sym, ◌∙◌}
use Rattle.std.specs.Prelude.{IsTrue, ◌&&◌}
use Rattle.std.specs.List.{find}
use Rattle.am_universe.specs.Universe.{sizes}
use Rattle.am_universe.specs.Choice.{IsWhole}
use Rattle.am_universe.proofs.ListLemmas.{IsIn-from_Contains, Contains-from_IsIn}
use Rattle.am_labels.specs.Space.{Space, IsChoiceOf, all_choices}
use Rattle.am_labels.proofs.SpaceLaws.{space_choices, space_choices_sorted}
use Rattle.am_search.specs.Start.{comes_before}
use Rattle.am_judged_lists.specs.Boxes.{IsInBox, HasChoice}
use Rattle.am_judged_lists.specs.Cube.{MaskedLabels, matches}
use Rattle.am_first_sets.specs.Meeting.{meets_cubes}
use Rattle.am_first_sets.proofs.SolverLemmas.{some_choice}
use Rattle.am_outcomes.specs.declared.walks.Walk.{Walk}
use Rattle.am_outcomes.specs.Walks.{is_on, known_box, AreBoxesOf}
use Rattle.am_outcomes.proofs.BoxLeast.{found_first}

alone : (b : Bool) → ((b && true) && true) ≡ b
alone true = refl
alone false = refl

module _ (s : Space) (cube : Bor MaskedLabels) (all some : List (List Bool))
    (whole : (c : List ℕ) → IsInBox all c ↔ IsWhole (sizes s.labels) c)
    (meets : (c : List ℕ) → IsInBox some c
    → IsChoiceOf s c × IsTrue (meets_cubes (cube ∷ []) [] c)) where
  its_match : (c : List ℕ) → IsInBox some c → matches cube.now c ≡ true
  its_match c inside = sym (alone (matches cube.now c)) ∙ (meets c inside).1

  -- the choices that the cube matches are whole, if there are some
  pub whole_within : (within : List (List Bool)) → HasChoice some
      → ((c : List ℕ) → IsInBox all c → IsTrue (matches cube.now c)
      → (d : List ℕ) → IsInBox within d → IsInBox all d × IsTrue (matches cube.now d))
      → (d : List ℕ) → IsInBox within d → IsWhole (sizes s.labels) d
  whole_within within has narrower d inside =
      let r = some_choice some has in
      let choice = (meets r.0 r.1).0 in
      (whole d).0 (narrower r.0 ((whole r.0).1 choice.0) (its_match r.0 r.1) d inside).0

-- a known choice of a walk is its first, if no choice of its box comes before
pub first_of_walk : (all : Space) (walk : Walk) (x : List ℕ) → AreBoxesOf all walk
    → IsInBox (known_box walk) x
    → ((c : List ℕ) → IsInBox walk.within c → comes_before c x ≡ false)
    → Some x ≡ find (λ c. is_on c walk) (all_choices all)
first_of_walk all walk x boxes inside least =
    let is = boxes.known x inside in
    found_first (λ c. is_on c walk) (all_choices all) x (space_choices_sorted all)
    (IsIn-from_Contains (all_choices all) x ((space_choices all x).1 is.0)) is.1
    (λ c there passes.
    least c (boxes.within c
    ((space_choices all c).0 (Contains-from_IsIn (all_choices all) c there)) passes))
