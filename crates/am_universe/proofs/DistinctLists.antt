-- Lists whose items all have a property, and lists of distinct items: with one more item, and their
-- prefixes.
use Rattle.std.proofs.Common.{◌≡◌, List, [], ◌∷◌, ◌++◌, Bool, false, ◌||◌, refl, ap, ◌∙◌}
use Rattle.std.specs.List.{AllByRecursion, IsDistinct, list_any}
use Rattle.std.proofs.lemmas.Bool.{or_parts}

pub all_push : {A : Type 0} (P : A → Type 0) (xs : List A) (y : A) → AllByRecursion P xs → P y
    → AllByRecursion P (xs ++ y ∷ [])
all_push P [] y all here = (here, tt)
all_push P (x ∷ xs) y all here = (all.0, all_push P xs y all.1 here)

pub all_pushed : {A : Type 0} (P : A → Type 0) (xs : List A) (y : A)
    → AllByRecursion P (xs ++ y ∷ []) → AllByRecursion P xs × P y
all_pushed P [] y all = (tt, all.0)
all_pushed P (x ∷ xs) y all = let rest = all_pushed P xs y all.1 in ((all.0, rest.0), rest.1)

pub all_front : {A : Type 0} (P : A → Type 0) (xs ys : List A) → AllByRecursion P (xs ++ ys)
    → AllByRecursion P xs
all_front P [] ys all = tt
all_front P (x ∷ xs) ys all = (all.0, all_front P xs ys all.1)

pub distinct_none : {A : Type 0} (e : A → A → Bool) → IsDistinct e []
unfolding IsDistinct
distinct_none e = tt

pub distinct_push : {A : Type 0} (e : A → A → Bool) (xs : List A) (y : A) → IsDistinct e xs
    → list_any (λ z. e z y) xs ≡ false → IsDistinct e (xs ++ y ∷ [])
unfolding IsDistinct
distinct_push e [] y d none = (tt, tt)
distinct_push e (x ∷ xs) y d none =
    let split = or_parts (e x y) (list_any (λ z. e z y) xs) none in
    (all_push (λ z. e x z ≡ false) xs y d.0 split.0, distinct_push e xs y d.1 split.1)

pub distinct_pushed : {A : Type 0} (e : A → A → Bool) (xs : List A) (y : A)
    → IsDistinct e (xs ++ y ∷ []) → IsDistinct e xs × (list_any (λ z. e z y) xs ≡ false)
unfolding IsDistinct
distinct_pushed e [] y d = (tt, refl)
distinct_pushed e (x ∷ xs) y d =
    let here = all_pushed (λ z. e x z ≡ false) xs y d.0 in
    let rest = distinct_pushed e xs y d.1 in
    ((here.0, rest.0), ap (λ b. b || list_any (λ z. e z y) xs) here.1 ∙ rest.1)

pub distinct_front : {A : Type 0} (e : A → A → Bool) (xs ys : List A) → IsDistinct e (xs ++ ys)
    → IsDistinct e xs
unfolding IsDistinct
distinct_front e [] ys d = tt
distinct_front e (x ∷ xs) ys d =
    (all_front (λ y. e x y ≡ false) xs ys d.0, distinct_front e xs ys d.1)
