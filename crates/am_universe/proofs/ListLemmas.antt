-- The elements of lists by recursion, and lists in strict order.
use Rattle.std.proofs.Common.{◌≡◌, ◌⊎◌, zero, suc, List, [], ◌∷◌, ◌++◌, map, Contains, ap, ◌∙◌, refl, subst, inl, inr, arith}
use Rattle.std.specs.List.{AllByRecursion}
use Rattle.std.specs.List.Sorted.{IsStrictlySortedBy}
use Rattle.std.specs.declared.cmp.Ordering.{Ordering}
use Rattle.std.specs.declared.cmp.Ordering.TheVariants.{Less}

-- x is an element of the list
abbrev pub IsIn : {X : Type 0} → List X → X → Type 0
IsIn [] x = ⊥
IsIn (y ∷ ys) x = (y ≡ x) ⊎ IsIn ys x

pub IsIn-from_Contains : {X : Type 0} (xs : List X) (x : X) → Contains xs x → IsIn xs x
IsIn-from_Contains [] x h = absurd (omega (arith, h.1))
IsIn-from_Contains (y ∷ ys) x (zero, h, e) = inl e
IsIn-from_Contains (y ∷ ys) x (suc k, h, e) = inr (IsIn-from_Contains ys x (k, omega arith, e))

pub Contains-from_IsIn : {X : Type 0} (xs : List X) (x : X) → IsIn xs x → Contains xs x
Contains-from_IsIn [] x h = absurd h
Contains-from_IsIn (y ∷ ys) x (inl e) = (0, omega arith, e)
Contains-from_IsIn (y ∷ ys) x (inr h) = let r = Contains-from_IsIn ys x h in (suc r.0, omega (arith, r.1), r.2)

pub IsIn-left : {X : Type 0} (xs ys : List X) (x : X) → IsIn xs x → IsIn (xs ++ ys) x
IsIn-left [] ys x h = absurd h
IsIn-left (y ∷ xs) ys x (inl e) = inl e
IsIn-left (y ∷ xs) ys x (inr h) = inr (IsIn-left xs ys x h)

pub IsIn-right : {X : Type 0} (xs ys : List X) (x : X) → IsIn ys x → IsIn (xs ++ ys) x
IsIn-right [] ys x h = h
IsIn-right (y ∷ xs) ys x h = inr (IsIn-right xs ys x h)

pub IsIn-split : {X : Type 0} (xs ys : List X) (x : X) → IsIn (xs ++ ys) x → IsIn xs x ⊎ IsIn ys x
IsIn-split [] ys x h = inr h
IsIn-split (y ∷ xs) ys x (inl e) = inl (inl e)
IsIn-split (y ∷ xs) ys x (inr h) = elim (IsIn-split xs ys x h) [ inl a ↦ inl (inr a) | inr b ↦ inr b ]

pub IsIn-map : {X Y : Type 0} (f : X → Y) (xs : List X) (x : X) → IsIn xs x → IsIn (map f xs) (f x)
IsIn-map f [] x h = h
IsIn-map f (y ∷ xs) x (inl e) = inl (ap f e)
IsIn-map f (y ∷ xs) x (inr h) = inr (IsIn-map f xs x h)

pub IsIn-unmap : {X Y : Type 0} (f : X → Y) (xs : List X) (y : Y) → IsIn (map f xs) y → (x : X) × IsIn xs x × (f x ≡ y)
IsIn-unmap f [] y h = absurd h
IsIn-unmap f (x ∷ xs) y (inl e) = (x, inl refl, e)
IsIn-unmap f (x ∷ xs) y (inr h) = let r = IsIn-unmap f xs y h in (r.0, inr r.1, r.2)

pub AllByRecursion-each : {X : Type 0} (P : X → Type 0) (xs : List X) → ((x : X) → IsIn xs x → P x) → AllByRecursion P xs
AllByRecursion-each P [] h = tt
AllByRecursion-each P (x ∷ xs) h = (h x (inl refl), AllByRecursion-each P xs (λ y i. h y (inr i)))

pub AllByRecursion-at : {X : Type 0} (P : X → Type 0) (xs : List X) (x : X) → AllByRecursion P xs → IsIn xs x → P x
AllByRecursion-at P [] x h i = absurd i
AllByRecursion-at P (y ∷ xs) x h (inl e) = subst P e h.0
AllByRecursion-at P (y ∷ xs) x h (inr i) = AllByRecursion-at P xs x h.1 i

pub IsStrictlySortedBy-append : {X : Type 0} (R : X → X → Ordering) (xs ys : List X) → IsStrictlySortedBy R xs → IsStrictlySortedBy R ys → ((x y : X) → IsIn xs x → IsIn ys y → R x y ≡ Less) → IsStrictlySortedBy R (xs ++ ys)
unfolding IsStrictlySortedBy
IsStrictlySortedBy-append R [] ys s t below = t
IsStrictlySortedBy-append R (x ∷ xs) ys s t below = (
  AllByRecursion-each (λ y. R x y ≡ Less) (xs ++ ys) (λ y i. elim (IsIn-split xs ys y i) [ inl a ↦ AllByRecursion-at (λ y. R x y ≡ Less) xs y s.0 a | inr b ↦ below x y (inl refl) b ]),
  IsStrictlySortedBy-append R xs ys s.1 t (λ v y i j. below v y (inr i) j),
)

pub IsStrictlySortedBy-map : {X Y : Type 0} (R : X → X → Ordering) (S : Y → Y → Ordering) (f : X → Y) (xs : List X) → ((a b : X) → S (f a) (f b) ≡ R a b) → IsStrictlySortedBy R xs → IsStrictlySortedBy S (map f xs)
unfolding IsStrictlySortedBy
IsStrictlySortedBy-map R S f [] same s = tt
IsStrictlySortedBy-map R S f (x ∷ xs) same s = (
  AllByRecursion-each (λ y. S (f x) y ≡ Less) (map f xs) (λ y i. let r = IsIn-unmap f xs y i in subst (λ z. S (f x) z ≡ Less) r.2 (same x r.0 ∙ AllByRecursion-at (λ b. R x b ≡ Less) xs r.0 s.0 r.1)),
  IsStrictlySortedBy-map R S f xs same s.1,
)
