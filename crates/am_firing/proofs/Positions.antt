-- Which items of a list pass a test, by their positions, and which of these are marked.
use Rattle.std.proofs.Common.{◌≡◌, ◌<◌, ◌≤◌, ◌+◌, ◌==◌, ℕ, suc, List, [], ◌∷◌, ◌++◌, length, map}
use Rattle.std.proofs.Common.{Bool, false, not, get_or, refl, ap, subst, inl, inr, arith}
use Rattle.std.specs.List.{list_any, list_all, filter, AllByRecursion}
use Rattle.std.proofs.lemmas.Bool.{cases_Bool}
use Rattle.std.proofs.lemmas.Bool.Decides.{nat_tests}
use Rattle.std.proofs.lemmas.Grind.{common_steps}
use Rattle.std.proofs.lemmas.List.{length_push, append_assoc}
use Rattle.am_universe.proofs.ListLemmas.{IsIn}
use Rattle.am_eval.specs.Silencing.{positions_where}
use Rattle.am_firing.specs.Going.{are_all_marked}

-- ---- Positions.

pub where_map : {A B : Type 0} (f : A → B) (test : B → Bool) (from : ℕ) (xs : List A)
    → positions_where test from (map f xs) ≡ positions_where (λ x. test (f x)) from xs
where_map f test from [] = refl
where_map f test from (x ∷ xs) = elim (cases_Bool (test (f x))) [
  | inl passes ↦ rw passes (ap (λ is. from ∷ is) (where_map f test (from + 1) xs))
  | inr fails ↦ rw fails (where_map f test (from + 1) xs)
]

pub where_same : {A : Type 0} (p q : A → Bool) (from : ℕ) (xs : List A)
    → ((x : A) → IsIn xs x → p x ≡ q x) → positions_where p from xs ≡ positions_where q from xs
where_same p q from [] each = refl
where_same p q from (x ∷ xs) each =
    let later = where_same p q (from + 1) xs (λ y i. each y (inr i)) in
    rw (each x (inl refl), later) refl

pub where_count : {A : Type 0} (test : A → Bool) (from : ℕ) (xs : List A)
    → length (positions_where test from xs) ≡ length (filter test xs)
where_count test from [] = refl
where_count test from (x ∷ xs) = elim (cases_Bool (test x)) [
  | inl passes ↦ rw passes (ap suc (where_count test (from + 1) xs))
  | inr fails ↦ rw fails (where_count test (from + 1) xs)
]

pub where_none : {A : Type 0} (test : A → Bool) (from : ℕ) (xs : List A)
    → (length (positions_where test from xs) == 0) ≡ not (list_any test xs)
where_none test from [] = refl
where_none test from (x ∷ xs) = elim (cases_Bool (test x)) [
  | inl passes ↦ rw passes (grind (arith, nat_tests))
  | inr fails ↦ rw fails (where_none test (from + 1) xs)
]

pub where_within : {A : Type 0} (test : A → Bool) (from : ℕ) (xs : List A) (n : ℕ)
    → from + length xs ≤ n → AllByRecursion (λ i. i < n) (positions_where test from xs)
where_within test from [] n le = tt
where_within test from (x ∷ xs) n le = elim (cases_Bool (test x)) [
  | inl passes ↦ rw passes (omega arith, where_within test (from + 1) xs n (omega arith))
  | inr fails ↦ rw fails (where_within test (from + 1) xs n (omega arith))
]

-- ---- Marks.

-- each of some items passes a test, and there is one
abbrev pub is_each : {A : Type 0} → (A → Bool) → List A → Bool
is_each test [] = false
is_each test (x ∷ xs) = list_all test (x ∷ xs)

marked_at : {A : Type 0} (mark test : A → Bool) (front : List Bool) (from : ℕ) (xs : List A)
    → length front ≡ from
    → list_all (λ i. get_or (front ++ map mark xs) i false) (positions_where test from xs)
    ≡ list_all mark (filter test xs)
marked_at mark test front from [] e = refl
marked_at mark test front from (x ∷ xs) e =
    let next : length (front ++ mark x ∷ []) ≡ from + 1 = omega (arith, length_push front (mark x)) in
    let same : (front ++ mark x ∷ []) ++ map mark xs ≡ front ++ mark x ∷ map mark xs =
    append_assoc front (mark x ∷ []) (map mark xs) in
    let later : list_all (λ i. get_or (front ++ mark x ∷ map mark xs) i false) (positions_where test (from + 1) xs)
    ≡ list_all mark (filter test xs) =
    subst (λ marks. list_all (λ i. get_or marks i false) (positions_where test (from + 1) xs) ≡ list_all mark (filter test xs)) same
    (marked_at mark test (front ++ mark x ∷ []) (from + 1) xs next) in
    elim (cases_Bool (test x)) [
      | inl passes ↦
          let here : get_or (front ++ mark x ∷ map mark xs) from false ≡ mark x = grind (arith, common_steps) in
          rw (passes, here, later) refl
      | inr fails ↦ rw fails later
    ]

-- both lists are empty, or neither is
each_as_all : {A : Type 0} (marks : List Bool) (mark : A → Bool) (is : List ℕ) (xs : List A)
    → length is ≡ length xs → list_all (λ i. get_or marks i false) is ≡ list_all mark xs
    → are_all_marked marks is ≡ is_each mark xs
each_as_all marks mark [] [] same all = refl
each_as_all marks mark [] (x ∷ xs) same all = absurd (omega arith)
each_as_all marks mark (i ∷ is) [] same all = absurd (omega arith)
each_as_all marks mark (i ∷ is) (x ∷ xs) same all = all

pub all_marked : {A : Type 0} (mark test : A → Bool) (xs : List A)
    → are_all_marked (map mark xs) (positions_where test 0 xs) ≡ is_each mark (filter test xs)
all_marked mark test xs =
    each_as_all (map mark xs) mark (positions_where test 0 xs) (filter test xs)
    (where_count test 0 xs) (marked_at mark test [] 0 xs refl)
