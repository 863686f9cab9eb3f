-- Tests of lists.
use Rattle.std.proofs.Common.{◌≡◌, ℕ, ◌+◌, Bool, true, false, ◌&&◌, ◌||◌, List, [], ◌∷◌, Some}
use Rattle.std.proofs.Common.{take, inl, inr, refl, sym, ap, ◌∙◌}
use Rattle.std.specs.Prelude.{slice_get}
use Rattle.std.specs.List.{list_any, filter}
use Rattle.std.proofs.lemmas.Bool.{cases_Bool}
use Rattle.std.proofs.lemmas.List.Folds.{list_any_more}
use Rattle.std.proofs.lemmas.Option.{slice_get_within, get_or_from_slice_get}

-- some kept member passes exactly if some member is to be kept and passes
pub any_kept : {X : Type 0} (test keep : X → Bool) (xs : List X)
    → list_any test (filter keep xs) ≡ list_any (λ x. keep x && test x) xs
any_kept test keep [] = refl
any_kept test keep (x ∷ xs) = elim (cases_Bool (keep x)) [
  | inl e ↦ rw e (ap (λ b. test x || b) (any_kept test keep xs))
  | inr e ↦ rw e (any_kept test keep xs)
]

-- a condition that each test also requires is required once
pub any_and : {X : Type 0} (a : Bool) (test : X → Bool) (xs : List X)
    → list_any (λ x. a && test x) xs ≡ (a && list_any test xs)
any_and true test xs = refl
any_and false test [] = refl
any_and false test (x ∷ xs) = any_and false test xs

-- ---- One item more, in a loop.

pub any_more : {X : Type 0} (test : X → Bool) (xs : List X) (i : ℕ) (x : X) (so_far now : Bool)
    → slice_get xs i ≡ Some x → so_far ≡ list_any test (take i xs) → now ≡ (so_far || test x)
    → now ≡ list_any test (take (i + 1) xs)
any_more test xs i x so_far now here e f =
    f ∙ ap (λ b. b || test x) e
    ∙ sym (list_any_more test xs i x (slice_get_within xs i x here)
    ∙ ap (λ y. list_any test (take i xs) || test y) (get_or_from_slice_get xs i x x here))
