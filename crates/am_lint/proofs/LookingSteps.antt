-- Routes that are looked at over a second space, one after another.
use Rattle.std.proofs.Common.{◌≡◌, ◌<◌, ◌+◌, ℕ, zero, suc, List, [], ◌∷◌, length, take, set}
use Rattle.std.proofs.Common.{Some, refl}
use Rattle.std.proofs.Common.{◌∙◌, subst, slice_get}
use Rattle.std.specs.List.{AllByRecursion, AllZip}
use Rattle.std.proofs.lemmas.List.{take_more_set}
use Rattle.am_universe.proofs.DistinctLists.{all_push}
use Rattle.am_lint.specs.declared.found.FoundRoute.{FoundRoute}
use Rattle.am_lint.specs.FoundView.{IsSameButEvery}

pub same_all : (found : List FoundRoute) → AllZip IsSameButEvery found found
same_all [] = tt
same_all (f ∷ found) = ((refl, refl, refl), same_all found)

pub one_set : (old found : List FoundRoute) (i : ℕ) (before after : FoundRoute)
    → AllZip IsSameButEvery old found → slice_get found i ≡ Some before
    → IsSameButEvery before after → AllZip IsSameButEvery old (set found i after)
one_set [] [] i before after same at is = absurd (cc)
one_set [] (f ∷ found) i before after same at is = absurd same
one_set (o ∷ old) [] i before after same at is = absurd same
one_set (o ∷ old) (f ∷ found) zero before after same at is =
    let it : f ≡ before = cc in
    let first = subst (IsSameButEvery o) it same.0 in
    ((is.0 ∙ first.0, is.1 ∙ first.1, is.2 ∙ first.2), same.1)
one_set (o ∷ old) (f ∷ found) (suc i) before after same at is =
    (same.0, one_set old found i before after same.1 at is)

pub looked_more : {X : Type 0} (P : X → Type 0) (xs : List X) (i : ℕ) (x : X) → i < length xs
    → AllByRecursion P (take i xs) → P x → AllByRecursion P (take (i + 1) (set xs i x))
looked_more P xs i x lt before here =
    rw (take_more_set xs i x lt) (all_push P (take i xs) x before here)
