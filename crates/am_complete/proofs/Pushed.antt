-- A list with one more item: what is at each position, what is in it, and what holds for all of it.
use Rattle.std.proofs.Common.{◌≡◌, ◌⊎◌, ℕ, zero, suc, ◌+◌, List, [], ◌∷◌, ◌++◌, length, take, Some, arith}
use Rattle.std.proofs.Common.{refl, sym, ap, ◌∙◌, inl, inr, subst}
use Rattle.std.specs.Prelude.{slice_get}
use Rattle.std.specs.List.{AllByRecursion, AllZip}
use Rattle.std.proofs.lemmas.List.{take_more}
use Rattle.std.proofs.lemmas.Option.{get_or_from_slice_get, slice_get_within}
use Rattle.std.proofs.lemmas.Grind.{common_steps}
use Rattle.am_universe.proofs.DistinctLists.{all_push}
use Rattle.am_universe.proofs.ListLemmas.{IsIn}

-- ---- Behind the others.

pub got_front : {X : Type 0} (xs ys : List X) (i : ℕ) (x : X) → slice_get xs i ≡ Some x
    → slice_get (xs ++ ys) i ≡ Some x
got_front [] ys i x h = absurd (cc)
got_front (y ∷ xs) ys zero x h = h
got_front (y ∷ xs) ys (suc i) x h = got_front xs ys i x h

pub got_last : {X : Type 0} (xs : List X) (y : X) → slice_get (xs ++ y ∷ []) (length xs) ≡ Some y
got_last [] y = refl
got_last (x ∷ xs) y = got_last xs y

pub got_either : {X : Type 0} (xs : List X) (y x : X) (i : ℕ)
    → slice_get (xs ++ y ∷ []) i ≡ Some x
    → (slice_get xs i ≡ Some x) ⊎ ((i ≡ length xs) × (y ≡ x))
got_either [] y x zero h = inr (refl, cc)
got_either [] y x (suc i) h = absurd (cc)
got_either (z ∷ xs) y x zero h = inl h
got_either (z ∷ xs) y x (suc i) h = grind (arith, common_steps, got_either xs y x i h)

pub in_pushed : {X : Type 0} (xs : List X) (y x : X) → IsIn (xs ++ y ∷ []) x
    → IsIn xs x ⊎ (y ≡ x)
in_pushed [] y x (inl e) = inr e
in_pushed [] y x (inr none) = absurd none
in_pushed (z ∷ xs) y x (inl e) = inl (inl e)
in_pushed (z ∷ xs) y x (inr h) = elim (in_pushed xs y x h) [ inl a ↦ inl (inr a) | inr e ↦ inr e ]

-- ---- At a position.

-- what is at a position of two lists, if something holds of them item by item
pub zip_left : {A B : Type 0} (R : A → B → Type 0) (xs : List A) (ys : List B) (i : ℕ) (x : A)
    → AllZip R xs ys → slice_get xs i ≡ Some x → (y : B) × (slice_get ys i ≡ Some y) × R x y
zip_left R [] ys i x each at = absurd (cc)
zip_left R (z ∷ xs) [] i x each at = absurd each
zip_left R (z ∷ xs) (y ∷ ys) zero x each at =
    let is : z ≡ x = cc in (y, refl, subst (λ v. R v y) is each.0)
zip_left R (z ∷ xs) (y ∷ ys) (suc i) x each at = zip_left R xs ys i x each.1 at

pub zip_right : {A B : Type 0} (R : A → B → Type 0) (xs : List A) (ys : List B) (i : ℕ) (y : B)
    → AllZip R xs ys → slice_get ys i ≡ Some y → (x : A) × (slice_get xs i ≡ Some x) × R x y
zip_right R xs [] i y each at = absurd (cc)
zip_right R [] (z ∷ ys) i y each at = absurd each
zip_right R (x ∷ xs) (z ∷ ys) zero y each at =
    let is : z ≡ y = cc in (x, refl, subst (R x) is each.0)
zip_right R (x ∷ xs) (z ∷ ys) (suc i) y each at = zip_right R xs ys i y each.1 at

pub one_longer : {X : Type 0} (xs : List X) (i : ℕ) (x : X) → slice_get xs i ≡ Some x
    → take i xs ++ x ∷ [] ≡ take (i + 1) xs
one_longer xs i x at =
    ap (λ y. take i xs ++ y ∷ []) (sym (get_or_from_slice_get xs i x x at))
    ∙ sym (take_more xs i x (slice_get_within xs i x at))

pub one_more_passes : {X : Type 0} (P : X → Type 0) (xs : List X) (i : ℕ) (x : X)
    → slice_get xs i ≡ Some x → AllByRecursion P (take i xs) → P x
    → AllByRecursion P (take (i + 1) xs)
one_more_passes P xs i x at before here =
    rw (← one_longer xs i x at) (all_push P (take i xs) x before here)
