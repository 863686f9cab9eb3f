-- Tests that none of a list passes, that two lists pass alike, and that all of a list pass.
use Rattle.std.proofs.Common.{◌≡◌, ◌≢◌, ℕ, List, [], ◌∷◌, refl, ap, Bool, true, false, not}
use Rattle.std.proofs.Common.{None, inl, inr}
use Rattle.std.specs.List.{filter, find, list_all, list_any}
use Rattle.std.proofs.lemmas.Bool.{cases_Bool, not-true, both_ways, false_from_ne_true}
use Rattle.am_universe.proofs.ListLemmas.{IsIn}
use Rattle.am_labels.proofs.Passing.{any_in, in_any}
use Rattle.am_unseen.specs.Unseen.{none_passes}

-- ---- The first that passes.

pub find_none : {X : Type 0} (test : X → Bool) (xs : List X)
    → ((x : X) → IsIn xs x → test x ≡ false) → find test xs ≡ None
find_none test [] each = refl
find_none test (x ∷ xs) each =
    rw (each x (inl refl)) (find_none test xs (λ y i. each y (inr i)))

pub find_same : {X : Type 0} (p q : X → Bool) (xs : List X)
    → ((x : X) → IsIn xs x → p x ≡ q x) → find p xs ≡ find q xs
find_same p q [] each = refl
find_same p q (x ∷ xs) each =
    let later = find_same p q xs (λ y i. each y (inr i)) in
    rw (each x (inl refl), later) refl

-- the first that passes is kept by each test that it passes too
pub find_kept : {X : Type 0} (p q : X → Bool) (xs : List X)
    → ((x : X) → p x ≡ true → q x ≡ true) → find p (filter q xs) ≡ find p xs
find_kept p q [] each = refl
find_kept p q (x ∷ xs) each =
    let later = find_kept p q xs each in
    elim (cases_Bool (q x)) [
      | inl kept ↦ rw (kept, later) refl
      | inr out ↦
          let fails = false_from_ne_true (p x) (λ passes. both_ways (q x) out (each x passes)) in
          rw (out, fails) later
    ]

-- ---- All pass.

pub each_all : {X : Type 0} (test : X → Bool) (xs : List X)
    → ((x : X) → IsIn xs x → test x ≡ true) → list_all test xs ≡ true
each_all test [] each = refl
each_all test (x ∷ xs) each = rw (each x (inl refl)) (each_all test xs (λ y i. each y (inr i)))

-- ---- There are some, and none passes.

pub each_fails : (test : List ℕ → Bool) (ts : List (List ℕ)) (t : List ℕ)
    → none_passes test ts ≡ true → IsIn ts t → test t ≡ false
each_fails test [] t h i = absurd i
each_fails test (x ∷ xs) t h i =
    false_from_ne_true (test t) (λ passes.
    both_ways (list_any test (x ∷ xs)) (not-true (list_any test (x ∷ xs)) h)
    (in_any test (x ∷ xs) t i passes))

pub some_text : (test : List ℕ → Bool) (ts : List (List ℕ)) → none_passes test ts ≡ true
    → (t : List ℕ) × IsIn ts t
some_text test [] h = absurd (cc)
some_text test (t ∷ ts) h = (t, inl refl)

pub none_from : (test : List ℕ → Bool) (ts : List (List ℕ)) (t : List ℕ) → IsIn ts t
    → ((x : List ℕ) → IsIn ts x → test x ≡ false) → none_passes test ts ≡ true
none_from test [] t i each = absurd i
none_from test (x ∷ xs) t i each =
    ap not (false_from_ne_true (list_any test (x ∷ xs)) (λ some.
    let r = any_in test (x ∷ xs) some in both_ways (test r.0) (each r.0 r.1) r.2))

pub if_some : (test : List ℕ → Bool) (ts : List (List ℕ)) → ts ≢ []
    → none_passes test ts ≡ not (list_any test ts)
if_some test [] some = absurd (some refl)
if_some test (t ∷ ts) some = refl
