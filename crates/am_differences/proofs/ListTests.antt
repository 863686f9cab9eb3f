-- Tests that all items of a list pass, or none.
use Rattle.std.proofs.Common.{◌≡◌, Bool, true, false, not, List, [], ◌∷◌, map, length, refl, sym}
use Rattle.std.proofs.Common.{ap, ◌∙◌, inl, inr, arith}
use Rattle.std.specs.List.{filter, list_all}
use Rattle.std.proofs.lemmas.Bool.{cases_Bool, and_parts, and_from}
use Rattle.am_universe.proofs.ListLemmas.{IsIn}

pub none_there : {X : Type 0} (xs : List X) → length xs ≡ 0 → xs ≡ []
none_there [] e = refl
none_there (x ∷ xs) e = absurd (omega arith)

pub map_none : {X Y : Type 0} (f : X → Y) (xs : List X) → map f xs ≡ [] → xs ≡ []
map_none f [] e = refl
map_none f (x ∷ xs) e = absurd (cc)

pub not_false : (b : Bool) → not b ≡ false → b ≡ true
not_false true e = refl
not_false false e = absurd (cc)

-- ---- Tests that none passes.

pub none_pass : {X : Type 0} (test : X → Bool) (xs : List X) → filter test xs ≡ [] → (x : X)
    → IsIn xs x → test x ≡ false
none_pass test [] e y i = absurd i
none_pass test (x ∷ xs) e y i = elim (cases_Bool (test x)) [
  | inl passes ↦ let some = rw passes at e in absurd (cc)
  | inr fails ↦ elim i [
    | inl same ↦ ap test (sym same) ∙ fails
    | inr later ↦ none_pass test xs (rw fails at e) y later
  ]
]

pub keeps_none : {X : Type 0} (test : X → Bool) (xs : List X)
    → ((x : X) → IsIn xs x → test x ≡ false) → filter test xs ≡ []
keeps_none test [] each = refl
keeps_none test (x ∷ xs) each =
    rw (each x (inl refl)) (keeps_none test xs (λ y i. each y (inr i)))

-- ---- Tests that all pass.

pub each_passes : {X : Type 0} (test : X → Bool) (xs : List X) → list_all test xs ≡ true → (x : X)
    → IsIn xs x → test x ≡ true
each_passes test [] e y i = absurd i
each_passes test (x ∷ xs) e y (inl same) =
    ap test (sym same) ∙ (and_parts (test x) (list_all test xs) e).0
each_passes test (x ∷ xs) e y (inr later) =
    each_passes test xs (and_parts (test x) (list_all test xs) e).1 y later

pub all_pass : {X : Type 0} (test : X → Bool) (xs : List X)
    → ((x : X) → IsIn xs x → test x ≡ true) → list_all test xs ≡ true
all_pass test [] each = refl
all_pass test (x ∷ xs) each =
    and_from (test x) (list_all test xs) (each x (inl refl))
    (all_pass test xs (λ y i. each y (inr i)))
