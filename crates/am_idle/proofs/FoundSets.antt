-- What a search finds among the choices of a space, and what it says of the label sets of the space.
use Rattle.std.proofs.Common.{◌≡◌, ◌↔◌, ℕ, List, Bool, true, false, not, Option, Some, None}
use Rattle.std.proofs.Common.{Result, Ok, Err, IfSome, IfNone, IfOk, refl, subst, arith}
use Rattle.std.specs.Prelude.{◌&&◌, is_some}
use Rattle.std.proofs.lemmas.Bool.{both_ways, cases_Bool}
use Rattle.std.proofs.lemmas.Grind.{common_steps}
use Rattle.am_labels.specs.Space.{Space, IsChoiceOf}
use Rattle.am_universe.specs.LabelSet.{label_set_of, LabelMap}
use Rattle.am_labels.specs.Matcher.{all_hold, Matcher}
use Rattle.am_judged_lists.specs.Cube.{IsCubeOf, MaskedLabels, matches}
use Rattle.am_first_sets.specs.PossibleChoices.{AreFound}
use Rattle.am_first_sets.proofs.CubeTruth.{matches_where}
use Rattle.am_first_sets.proofs.SolverLemmas.{some_choice}
use Rattle.am_eval.specs.Reaching.{IsSetOf, SomeIs, NoneIs}

-- ---- What a search finds.

pub one_found : (Is : List ℕ → Type 0) (test : List ℕ → Bool) (b : List (List Bool))
    → AreFound Is test b → (c : List ℕ) × Is c × (test c ≡ true)
one_found Is test b so =
    let r = some_choice b so.some in let met = so.each r.0 r.1 in (r.0, met.0, met.1)

-- the test of a search tells whether the label set of a choice has a property
module _ (s : Space) (Is : List ℕ → Type 0) (are : (c : List ℕ) → Is c ↔ IsChoiceOf s c)
    (test : List ℕ → Bool) (Has : LabelMap → Type 0)
    (tells : (c : List ℕ) → IsChoiceOf s c → test c ≡ true ↔ Has (label_set_of s.labels c)) where
  pub some_set : (found : Option (List (List Bool))) → IfSome found (AreFound Is test)
      → is_some found ≡ true → SomeIs (IsSetOf s) Has
  some_set None so some = absurd (cc)
  some_set (Some b) so some =
      let r = one_found Is test b so in
      let choice = (are r.0).0 r.1 in
      (label_set_of s.labels r.0, (r.0, choice, refl), (tells r.0 choice).0 r.2)

  pub no_set : (found : Option (List (List Bool)))
      → IfNone found ((c : List ℕ) → Is c → test c ≡ false) → is_some found ≡ false
      → NoneIs (IsSetOf s) Has
  no_set None none unfound set (c, choice, same) has =
      both_ways (test c) (none c ((are c).1 choice)) ((tells c choice).1 (subst Has same has))
  no_set (Some b) none unfound set is has = absurd (cc)

-- what follows from what a search found, if its budget was not used up
pub if_found : {A E F : Type 0} (P Q : A → Type 0) → ((x : A) → P x → Q x) → (found : Result A E)
    (answer : Result A F) → IfOk answer (λ x. found ≡ Ok x) → IfOk found P → IfOk answer Q
if_found P Q so found (Ok x) same is = so x (subst (λ r. IfOk r P) same is)
if_found P Q so found (Err e) same is = tt

-- ---- What cubes tell.

pub cube_tells : (s : Space) (ms : List Matcher) (cube : MaskedLabels) → IsCubeOf s.labels ms cube
    → (c : List ℕ) → IsChoiceOf s c → matches cube c ≡ all_hold (label_set_of s.labels c) ms
cube_tells s ms cube is c choice = matches_where s.labels c choice.0 ms cube (is c choice.0.0)

-- a search with one wanted cube, with two, and with one that is wanted and one that is not
pub one_wanted : (b d : Bool) → b ≡ d → ((b && true) && true) ≡ true ↔ d ≡ true
one_wanted b d e = grind (arith, common_steps, cases_Bool)

pub two_wanted : (b c d e : Bool) → b ≡ d → c ≡ e
    → ((b && (c && true)) && true) ≡ true ↔ (d ≡ true) × (e ≡ true)
two_wanted b c d e same other = grind (arith, common_steps, cases_Bool)

pub one_unwanted : (b c d e : Bool) → b ≡ d → c ≡ e
    → ((b && true) && (not c && true)) ≡ true ↔ (d ≡ true) × (e ≡ false)
one_unwanted b c d e same other = grind (arith, common_steps, cases_Bool)
