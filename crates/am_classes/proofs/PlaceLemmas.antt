-- The places of things that pass a test.
use Rattle.std.proofs.Common.{◌≡◌, ℕ, ◌+◌, ◌<◌, Bool, true, if◌then◌else◌, List, [], ◌∷◌, ◌++◌}
use Rattle.std.proofs.Common.{Some, slice_get, length, map, take, get_or, refl, sym, ap, subst, inl, inr, ◌∙◌, arith}
use Rattle.std.specs.List.{filter, enumerate_from, AllByRecursion}
use Rattle.std.proofs.lemmas.Bool.{cases_Bool}
use Rattle.std.proofs.lemmas.List.{length-take, take_more}
use Rattle.std.proofs.lemmas.Option.{same_Some}
use Rattle.am_universe.proofs.ListLemmas.{IsIn, IsIn-map, IsIn-unmap}
use Rattle.am_universe.proofs.Members.{item_at, numbered_at}
use Rattle.am_labels.proofs.Passing.{passes_from_kept, kept_from_passes}
use Rattle.am_classes.specs.Places.{places_from, places_where}

-- A place is there exactly if what stands there passes.
pub place_in : {X : Type 0} (test : X → Bool) (xs : List X) (k : ℕ) (x : X)
    → slice_get xs k ≡ Some x → test x ≡ true → IsIn (places_where test xs) k
place_in test xs k x at passes =
    let numbered = enumerate_from 0 xs in
    let here = numbered_at 0 xs k x at k (omega arith) in
    IsIn-map (λ p. p.0) (filter (λ p. test p.1) numbered) (k, x)
    (kept_from_passes (λ p. test p.1) numbered (k, x) here passes)

pub in_places : {X : Type 0} (test : X → Bool) (xs : List X) (k : ℕ) → IsIn (places_where test xs) k
    → (x : X) × (slice_get xs k ≡ Some x) × (test x ≡ true)
in_places test xs k there =
    let numbered = enumerate_from 0 xs in
    let one = IsIn-unmap (λ p. p.0) (filter (λ p. test p.1) numbered) k there in
    let kept = passes_from_kept (λ p. test p.1) numbered one.0 one.1 in
    (one.0.1, subst (λ j. slice_get xs j ≡ Some one.0.1) one.2 (item_at xs one.0 kept.0), kept.1)

-- One thing more.
pub places_more : {X : Type 0} (from : ℕ) (test : X → Bool) (xs : List X) (x : X)
    → places_from from test (xs ++ x ∷ [])
    ≡ places_from from test xs ++ (if test x then (from + length xs) ∷ [] else [])
places_more from test [] x = elim (cases_Bool (test x)) [
  | inl passes ↦ let n : from ≡ from + 0 = omega arith in rw (passes) (ap (λ k. k ∷ []) n)
  | inr fails ↦ rw (fails) refl
]
places_more from test (y ∷ xs) x =
    let more = places_more (from + 1) test xs x in
    let n : from + 1 + length xs ≡ from + length (y ∷ xs) = omega arith in
    elim (cases_Bool (test y)) [
      | inl passes ↦ rw passes (ap (λ ks. from ∷ ks) (subst (λ k. places_from (from + 1) test (xs ++ x ∷ []) ≡ places_from (from + 1) test xs ++ (if test x then k ∷ [] else [])) n more))
      | inr fails ↦ rw fails (subst (λ k. places_from (from + 1) test (xs ++ x ∷ []) ≡ places_from (from + 1) test xs ++ (if test x then k ∷ [] else [])) n more)
    ]

-- The next thing of a list.
pub places_front : {X : Type 0} (test : X → Bool) (xs : List X) (i : ℕ) (d : X) → i < length xs
    → places_where test (take (i + 1) xs)
    ≡ places_where test (take i xs) ++ (if test (get_or xs i d) then i ∷ [] else [])
places_front test xs i d within =
    let front = take i xs in
    let x = get_or xs i d in
    let here : 0 + length front ≡ i = omega (arith, within, length-take i xs) in
    ap (places_where test) (take_more xs i d within) ∙ places_more 0 test front x
    ∙ ap (λ n. places_where test front ++ (if test x then n ∷ [] else [])) here

-- Tests that are the same of each thing have the same places.
pub same_places : {X : Type 0} (from : ℕ) (test other : X → Bool) (xs : List X)
    → AllByRecursion (λ x. test x ≡ other x) xs
    → places_from from test xs ≡ places_from from other xs
same_places from test other [] each = refl
same_places from test other (x ∷ xs) each =
    rw each.0 (elim (cases_Bool (other x)) [
      | inl passes ↦ rw passes (ap (λ ks. from ∷ ks) (same_places (from + 1) test other xs each.1))
      | inr fails ↦ rw fails (same_places (from + 1) test other xs each.1)
    ])

-- If two tests have the same places, they are the same of what stands at a place.
passes_too : {X : Type 0} (test other : X → Bool) (xs : List X) (k : ℕ) (x : X)
    → places_where test xs ≡ places_where other xs → slice_get xs k ≡ Some x → test x ≡ true
    → other x ≡ true
passes_too test other xs k x same at passes =
    let found = in_places other xs k (subst (λ ks. IsIn ks k) same (place_in test xs k x at passes)) in
    subst (λ y. other y ≡ true) (same_Some found.0 x (sym found.1 ∙ at)) found.2

pub same_there : {X : Type 0} (test other : X → Bool) (xs : List X) (k : ℕ) (x : X)
    → places_where test xs ≡ places_where other xs → slice_get xs k ≡ Some x → test x ≡ other x
same_there test other xs k x same at = elim (cases_Bool (test x)) [
  | inl passes ↦ passes ∙ sym (passes_too test other xs k x same at passes)
  | inr fails ↦ elim (cases_Bool (other x)) [
    | inl passes ↦ let here = passes_too other test xs k x (sym same) at passes in absurd cc
    | inr missed ↦ fails ∙ sym missed
  ]
]

-- The places of things whose results pass a test.
pub places_mapped : {X Y : Type 0} (from : ℕ) (f : X → Y) (test : Y → Bool) (xs : List X)
    → places_from from test (map f xs) ≡ places_from from (λ x. test (f x)) xs
places_mapped from f test [] = refl
places_mapped from f test (x ∷ xs) = elim (cases_Bool (test (f x))) [
  | inl passes ↦ rw passes (ap (λ ks. from ∷ ks) (places_mapped (from + 1) f test xs))
  | inr fails ↦ rw fails (places_mapped (from + 1) f test xs)
]
