-- The first item that passes one of several tests is the earliest of the first items that pass each
-- of them.
use Rattle.std.proofs.Common.{◌≡◌, ℕ, List, [], ◌∷◌, map, Bool, true, false, Option, Some, None, arith}
use Rattle.std.proofs.Common.{refl, sym, ap, ◌∙◌, inl, inr}
use Rattle.std.specs.Prelude.{◌||◌}
use Rattle.std.specs.List.{find, list_any, fold}
use Rattle.std.proofs.lemmas.Bool.{cases_Bool}
use Rattle.std.proofs.lemmas.Grind.{common_steps}
use Rattle.am_universe.proofs.ListLemmas.{IsIn}
use Rattle.am_search.specs.Start.{comes_before}
use Rattle.am_search.proofs.ChoiceOrder.{Ascends, above_first, ascends_rest, not_itself, not_back}
use Rattle.am_coverage.specs.FirstEnds.{earlier, earliest}
use Rattle.am_first_sets.proofs.FirstPossible.{is_found, find_none}

-- ---- Of two tests.

pub none_before : (x : List ℕ) (xs : List (List ℕ)) (y : List ℕ) → Ascends (x ∷ xs)
    → IsIn (x ∷ xs) y → comes_before y x ≡ false
none_before x xs y s (inl same) = ap (λ z. comes_before z x) (sym same) ∙ not_itself x
none_before x xs y s (inr later) = not_back x y (above_first x xs y s later)

-- no test finds an item that is earlier than the first
first_kept : (test : List ℕ → Bool) (x : List ℕ) (xs : List (List ℕ)) → Ascends (x ∷ xs)
    → (found : Option (List ℕ)) → find test (x ∷ xs) ≡ found → earlier (Some x) found ≡ Some x
first_kept test x xs s None e = refl
first_kept test x xs s (Some y) e =
    rw (none_before x xs y s (is_found test (x ∷ xs) y e).0) refl

-- and the first item is earlier than what a test finds after it
first_taken : (test : List ℕ → Bool) (x : List ℕ) (xs : List (List ℕ)) → Ascends (x ∷ xs)
    → (found : Option (List ℕ)) → find test xs ≡ found → earlier found (Some x) ≡ Some x
first_taken test x xs s None e = refl
first_taken test x xs s (Some y) e =
    rw (above_first x xs y s (is_found test xs y e).0) refl

find_either : (f g : List ℕ → Bool) (xs : List (List ℕ)) → Ascends xs
    → find (λ x. f x || g x) xs ≡ earlier (find f xs) (find g xs)
find_either f g [] s = refl
find_either f g (x ∷ xs) s =
    grind (arith, common_steps, cases_Bool, first_kept, first_taken, ascends_rest, find_either f g xs)

-- ---- Of many.

pub or_nothing : (b : Bool) → (b || false) ≡ b
or_nothing true = refl
or_nothing false = refl

find_more : {X : Type 0} (test : X → List ℕ → Bool) (f : List ℕ → Bool) (ts : List X)
    (xs : List (List ℕ)) → Ascends xs
    → fold earlier (find f xs) (map (λ t. find (test t) xs) ts)
    ≡ find (λ x. f x || list_any (λ t. test t x) ts) xs
find_more test f [] xs s = λ i. find (λ x. sym (or_nothing (f x)) i) xs
find_more test f (t ∷ ts) xs s =
    let same : (x : List ℕ) → ((f x || test t x) || list_any (λ u. test u x) ts)
    ≡ (f x || (test t x || list_any (λ u. test u x) ts)) = λ x. grind (arith, common_steps) in
    ap (λ o. fold earlier o (map (λ u. find (test u) xs) ts)) (sym (find_either f (test t) xs s))
    ∙ find_more test (λ x. f x || test t x) ts xs s ∙ (λ i. find (λ x. same x i) xs)

pub find_any : {X : Type 0} (test : X → List ℕ → Bool) (ts : List X) (xs : List (List ℕ))
    → Ascends xs
    → find (λ x. list_any (λ t. test t x) ts) xs ≡ earliest (map (λ t. find (test t) xs) ts)
find_any test ts xs s =
    sym (ap (λ o. fold earlier o (map (λ t. find (test t) xs) ts)) (find_none xs)
    ∙ find_more test (λ x. false) ts xs s)
