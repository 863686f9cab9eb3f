-- Tests over lists.
use Rattle.std.proofs.Common.{◌≡◌, ◌≢◌, ℕ, zero, suc, ◌+◌, ◌<◌, ◌≤◌, Bool, true, false, ◌&&◌, ◌||◌, List, [], ◌∷◌, ◌++◌, length, get_or, refl, ap, sym, subst, ◌∙◌, inl, inr, arith, add-one, zero-add}
use Rattle.std.specs.Bool.{Decides}
use Rattle.std.specs.List.{list_all, list_any, range_with_len, AllByRecursion}
use Rattle.std.proofs.lemmas.List.Folds.{list_all-append}
use Rattle.am_universe.proofs.CompletionLemmas.{range_more}
use Rattle.std.proofs.lemmas.Bool.{cases_Bool, and_parts, and_from, or_left, or_right, cases_eq}
use Rattle.am_universe.proofs.ListLemmas.{IsIn}

-- ---- Each element.

pub each_both : {X : Type 0} (P Q R : X → Type 0) (xs : List X) → ((x : X) → P x → Q x → R x) → AllByRecursion P xs → AllByRecursion Q xs → AllByRecursion R xs
each_both P Q R [] step p q = tt
each_both P Q R (x ∷ xs) step p q = (step x p.0 q.0, each_both P Q R xs step p.1 q.1)

pub each_map : {X : Type 0} (P Q : X → Type 0) (xs : List X) → ((x : X) → P x → Q x) → AllByRecursion P xs → AllByRecursion Q xs
each_map P Q [] step p = tt
each_map P Q (x ∷ xs) step p = (step x p.0, each_map P Q xs step p.1)

pub each_pushed : {X : Type 0} (P : X → Type 0) (xs : List X) (x : X) → AllByRecursion P xs → P x → AllByRecursion P (xs ++ x ∷ [])
each_pushed P [] x all here = (here, tt)
each_pushed P (y ∷ xs) x all here = (all.0, each_pushed P xs x all.1 here)

pub each_passes : {X : Type 0} (test : X → Bool) (xs : List X) → list_all test xs ≡ true → AllByRecursion (λ x. test x ≡ true) xs
each_passes test [] e = tt
each_passes test (x ∷ xs) e = let parts = and_parts (test x) (list_all test xs) e in (parts.0, each_passes test xs parts.1)

pub all_pass : {X : Type 0} (test : X → Bool) (xs : List X) → AllByRecursion (λ x. test x ≡ true) xs → list_all test xs ≡ true
all_pass test [] all = refl
all_pass test (x ∷ xs) all = and_from (test x) (list_all test xs) all.0 (all_pass test xs all.1)

-- what holds of each holds at an index
pub at_index : {X : Type 0} (P : X → Type 0) (xs : List X) (k : ℕ) (x : X) → AllByRecursion P xs → k < length xs → x ≡ get_or xs k x → P x
at_index P [] k x all low is = absurd (omega arith)
at_index P (y ∷ xs) zero x all low is = subst P (sym is) all.0
at_index P (y ∷ xs) (suc k) x all low is = at_index P xs k x all.1 (omega arith) is

-- if not all pass, one fails
pub one_fails : {X : Type 0} (test : X → Bool) (xs : List X) → list_all test xs ≡ false → (x : X) × IsIn xs x × (test x ≡ false)
one_fails test [] e = cc
one_fails test (x ∷ xs) e = elim (cases_Bool (test x)) [
  | inl passes ↦ let r = one_fails test xs (rw passes at e) in (r.0, inr r.1, r.2)
  | inr fails ↦ (x, inl refl, fails)
]

-- if one fails, not all pass; if one passes, some do; if each fails, none does
pub not_all : {X : Type 0} (test : X → Bool) (xs : List X) (x : X) → IsIn xs x → test x ≡ false → list_all test xs ≡ false
not_all test [] x i e = absurd i
not_all test (y ∷ xs) x (inl same) e = rw (ap test same ∙ e) refl
not_all test (y ∷ xs) x (inr i) e = rw (not_all test xs x i e) (elim (test y) as (λ b. (b && false) ≡ false) [ true ↦ refl | false ↦ refl ])

pub some_passes : {X : Type 0} (test : X → Bool) (xs : List X) (x : X) → IsIn xs x → test x ≡ true → list_any test xs ≡ true
some_passes test [] x i e = absurd i
some_passes test (y ∷ xs) x (inl same) e = or_left (test y) (list_any test xs) (ap test same ∙ e)
some_passes test (y ∷ xs) x (inr i) e = or_right (test y) (list_any test xs) (some_passes test xs x i e)

pub none_passes : {X : Type 0} (test : X → Bool) (xs : List X) → AllByRecursion (λ x. test x ≡ false) xs → list_any test xs ≡ false
none_passes test [] all = refl
none_passes test (x ∷ xs) all = rw (all.0, none_passes test xs all.1) refl

-- two tests that agree on each element
pub same_all : {X : Type 0} (p q : X → Bool) (xs : List X) → AllByRecursion (λ x. p x ≡ q x) xs → list_all p xs ≡ list_all q xs
same_all p q [] all = refl
same_all p q (x ∷ xs) all = ap (λ b. b && list_all p xs) all.0 ∙ ap (λ b. q x && b) (same_all p q xs all.1)

pub same_any : {X : Type 0} (p q : X → Bool) (xs : List X) → AllByRecursion (λ x. p x ≡ q x) xs → list_any p xs ≡ list_any q xs
same_any p q [] all = refl
same_any p q (x ∷ xs) all = ap (λ b. b || list_any p xs) all.0 ∙ ap (λ b. q x || b) (same_any p q xs all.1)

-- ---- Numbers in a row.

-- if all numbers pass a test, the result is `true`; if all but one pass, that one decides
pub all_others : (test : ℕ → Bool) (first count : ℕ) → ((i : ℕ) → first ≤ i → test i ≡ true) → list_all test (range_with_len first count) ≡ true
all_others test first zero pass = refl
all_others test first (suc count) pass = rw (pass first (omega arith), all_others test (first + 1) count (λ i h. pass i (omega arith))) refl

pub and_true : (b : Bool) → (b && true) ≡ b
and_true true = refl
and_true false = refl

all_but_one : (test : ℕ → Bool) (k first count : ℕ) → first ≤ k → k < first + count → ((i : ℕ) → i ≢ k → test i ≡ true) → list_all test (range_with_len first count) ≡ test k
all_but_one test k first zero low high pass = absurd (omega arith)
all_but_one test k first (suc count) low high pass = elim (cases_eq first k) [
  | inl same ↦ ap (λ b. test first && b) (all_others test (first + 1) count (λ i h. pass i (λ e. omega (arith, e, same)))) ∙ and_true (test first) ∙ ap test same
  | inr other ↦ ap (λ b. b && list_all test (range_with_len (first + 1) count)) (pass first other) ∙ all_but_one test k (first + 1) count (omega (arith, other)) (omega arith) pass
]

pub all_but : (test : ℕ → Bool) (k count : ℕ) → k < count → ((i : ℕ) → i ≢ k → test i ≡ true) → list_all test (range_with_len 0 count) ≡ test k
all_but test k count h pass = all_but_one test k 0 count (omega arith) (omega arith) pass

-- they pass exactly if each does
pub each_in_row : (test : ℕ → Bool) (first count : ℕ)
    → Decides (list_all test (range_with_len first count)) ((k : ℕ) → first ≤ k → k < first + count → test k ≡ true)
each_in_row test first zero = (λ e k low high. absurd (omega (arith, low, high)), λ each. refl)
each_in_row test first (suc count) =
    let rest = each_in_row test (first + 1) count in (
      λ e k low high.
          let parts = and_parts (test first) (list_all test (range_with_len (first + 1) count)) e in
          elim (cases_eq first k) [
            | inl same ↦ ap test (sym same) ∙ parts.0
            | inr other ↦ rest.0 parts.1 k (omega (arith, low, other)) (omega (arith, high))
          ],
      λ each. and_from (test first) (list_all test (range_with_len (first + 1) count)) (each first (omega arith) (omega arith))
          (rest.1 (λ k low high. each k (omega (arith, low)) (omega (arith, high)))),
    )

pub all_first_more : (test : ℕ → Bool) (i : ℕ)
    → list_all test (range_with_len 0 (i + 1)) ≡ (list_all test (range_with_len 0 i) && test i)
all_first_more test i =
    ap (λ n. list_all test (range_with_len 0 n)) (add-one i)
    ∙ ap (list_all test) (range_more 0 i ∙ ap (λ n. range_with_len 0 i ++ n ∷ []) (zero-add i))
    ∙ list_all-append test (range_with_len 0 i) (i ∷ []) ∙ ap (λ b. list_all test (range_with_len 0 i) && b) (and_true (test i))

both_rearranged : (a b x y : Bool) → ((a && b) && (x && y)) ≡ ((a && x) && (b && y))
both_rearranged true false true y = refl
both_rearranged true false false y = refl
both_rearranged a b x y = refl

-- two tests at once
pub all_both : {X : Type 0} (p q : X → Bool) (xs : List X) → list_all (λ i. p i && q i) xs ≡ (list_all p xs && list_all q xs)
all_both p q [] = refl
all_both p q (x ∷ xs) = ap (λ b. (p x && q x) && b) (all_both p q xs) ∙ both_rearranged (p x) (q x) (list_all p xs) (list_all q xs)
