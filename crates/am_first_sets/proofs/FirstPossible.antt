-- The first choice of a space, and the first that passes a test.
use Rattle.std.proofs.Common.{◌≡◌, ◌↔◌, ℕ, List, [], ◌∷◌, Bool, true, false, ◌&&◌, Option, Some}
use Rattle.std.proofs.Common.{cond, None, IfSome, slice_get, refl, sym, ap, ◌∙◌, inl, inr, arith}
use Rattle.std.specs.List.{find, filter}
use Rattle.std.proofs.lemmas.Bool.{cases_Bool}
use Rattle.std.proofs.lemmas.Grind.{common_steps}
use Rattle.am_universe.proofs.ListLemmas.{IsIn, IsIn-from_Contains, Contains-from_IsIn}
use Rattle.am_labels.specs.Space.{Space, all_choices, IsChoiceOf}
use Rattle.am_labels.proofs.SpaceLaws.{space_choices}

-- the first that passes a test among those that a filter keeps is the first that passes both
pub find_kept : {X : Type 0} (test keep : X → Bool) (xs : List X)
    → find (λ x. test x && keep x) xs ≡ find test (filter keep xs)
find_kept test keep [] = refl
find_kept test keep (x ∷ xs) = grind (arith, common_steps, cases_Bool, find_kept test keep xs)

-- two tests that agree on all items of a list find the same
find_alike : {X : Type 0} (f g : X → Bool) (xs : List X) → ((x : X) → IsIn xs x → f x ≡ g x)
    → find f xs ≡ find g xs
find_alike f g [] same = refl
find_alike f g (x ∷ xs) same =
    λ i. cond (same x (inl refl) i) (Some x) (find_alike f g xs (λ y there. same y (inr there)) i)

-- and so do two that agree on all choices of a space
pub found_alike : (s : Space) (f g : List ℕ → Bool) → ((c : List ℕ) → IsChoiceOf s c → f c ≡ g c)
    → find f (all_choices s) ≡ find g (all_choices s)
found_alike s f g same =
    find_alike f g (all_choices s)
    (λ c there. same c ((space_choices s c).0 (Contains-from_IsIn (all_choices s) c there)))

pub find_none : {X : Type 0} (xs : List X) → None ≡ find (λ (x : X). false) xs
find_none [] = refl
find_none (x ∷ xs) = find_none xs

-- what is found is in the list and passes the test
pub is_found : {X : Type 0} (test : X → Bool) (xs : List X) (x : X) → find test xs ≡ Some x
    → IsIn xs x × (test x ≡ true)
is_found test [] x e = absurd (cc)
is_found test (y ∷ ys) x e = elim (cases_Bool (test y)) [
  | inl passes ↦
      let found : Some y ≡ Some x = rw passes at e in
      let same : y ≡ x = cc in (inl same, ap test (sym same) ∙ passes)
  | inr fails ↦ let r = is_found test ys x (rw fails at e) in (inr r.0, r.1)
]

pub found_of_space : (s : Space) (test : List ℕ → Bool) (found : Option (List ℕ))
    → found ≡ find test (all_choices s) → IfSome found (IsChoiceOf s)
found_of_space s test None e = tt
found_of_space s test (Some c) e =
    let all = all_choices s in
    (space_choices s c).0 (Contains-from_IsIn all c (is_found test all c (sym e)).0)

pub found_passes : (s : Space) (test : List ℕ → Bool) (found : Option (List ℕ)) (c : List ℕ)
    → found ≡ find test (all_choices s) → found ≡ Some c → test c ≡ true
found_passes s test found c e is = (is_found test (all_choices s) c (sym e ∙ is)).1

-- if nothing is found, no choice of the space passes the test
pub none_passes : (s : Space) (test : List ℕ → Bool) → None ≡ find test (all_choices s)
    → (c : List ℕ) → IsChoiceOf s c → test c ≡ false
none_passes s test none c is =
    fails (all_choices s) (sym none)
    (IsIn-from_Contains (all_choices s) c ((space_choices s c).1 is))
  where
    fails : (xs : List (List ℕ)) → find test xs ≡ None → IsIn xs c → test c ≡ false
    fails [] e there = absurd there
    fails (x ∷ xs) e (inl same) = grind (arith, common_steps, cases_Bool)
    fails (x ∷ xs) e (inr later) = grind (arith, common_steps, cases_Bool, fails xs)

-- ---- Without a test.

-- the first that passes a test is the first of those that a filter by the test keeps
pub find_first : {X : Type 0} (keep : X → Bool) (xs : List X)
    → find keep xs ≡ slice_get (filter keep xs) 0
find_first keep [] = refl
find_first keep (x ∷ xs) = grind (arith, common_steps, cases_Bool, find_first keep xs)

-- there is no first item exactly if the list is empty
pub no_first : {X : Type 0} (xs : List X) (first : Option X) → first ≡ slice_get xs 0
    → first ≡ None ↔ xs ≡ []
no_first [] first e = (λ none. refl, λ empty. e)
no_first (x ∷ xs) first e = (λ none. cc, λ empty. cc)
