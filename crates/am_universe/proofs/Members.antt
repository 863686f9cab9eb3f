-- What is in a list: an item at a position, an item of a numbered list, and an item of joined
-- lists.
use Rattle.std.proofs.Common.{◌≡◌, inl, inr, ℕ, zero, suc, ◌+◌, List, [], ◌∷◌, Some}
use Rattle.std.proofs.Common.{drop, refl, ap, ◌∙◌, arith}
use Rattle.std.specs.Prelude.{slice_get}
use Rattle.std.specs.List.{flat_map, enumerate_from}
use Rattle.am_universe.proofs.ListLemmas.{IsIn, IsIn-left, IsIn-right, IsIn-split}

-- ---- At a position.

pub at_in : {X : Type 0} (xs : List X) (x : X) → IsIn xs x → (k : ℕ) × (slice_get xs k ≡ Some x)
at_in [] x h = absurd h
at_in (y ∷ xs) x (inl same) = (0, ap Some same)
at_in (y ∷ xs) x (inr later) = let r = at_in xs x later in (suc r.0, r.1)

pub in_at : {X : Type 0} (xs : List X) (k : ℕ) (x : X) → slice_get xs k ≡ Some x → IsIn xs x
in_at [] k x e = absurd (cc)
in_at (y ∷ xs) zero x e = inl (cc)
in_at (y ∷ xs) (suc k) x e = inr (in_at xs k x e)

-- The rest of a list from a position on is the item there, followed by the rest after it.
pub left_at : {X : Type 0} (xs : List X) (i : ℕ) (x : X) → slice_get xs i ≡ Some x
    → drop i xs ≡ x ∷ drop (i + 1) xs
left_at [] i x e = absurd (cc)
left_at (y ∷ xs) zero x e = cc
left_at (y ∷ xs) (suc i) x e =
    let n : suc i + 1 ≡ suc (i + 1) = omega arith in rw n (left_at xs i x e)

-- ---- Numbered.

-- A number and the item that has it, if the items are numbered from `from` on.
abbrev pub IsNumbered : {X : Type 0} → ℕ → List X → ℕ × X → Type 0
IsNumbered from xs p = (k : ℕ) × (p.0 ≡ from + k) × (slice_get xs k ≡ Some p.1)

pub is_numbered : {X : Type 0} (from : ℕ) (xs : List X) (p : ℕ × X)
    → IsIn (enumerate_from from xs) p → IsNumbered from xs p
is_numbered from [] p h = absurd h
is_numbered from (x ∷ xs) p (inl same) =
    let at : p.0 ≡ from + 0 = omega (arith, ap (λ q. q.0) same) in
    (0, at, ap (λ q. Some q.1) same)
is_numbered from (x ∷ xs) p (inr later) =
    let r = is_numbered (from + 1) xs p later in
    let at : p.0 ≡ from + suc r.0 = omega (arith, r.1) in (suc r.0, at, r.2)

-- If the count starts at 0, the number of an item is its position.
pub item_at : {X : Type 0} (xs : List X) (p : ℕ × X) → IsIn (enumerate_from 0 xs) p
    → slice_get xs p.0 ≡ Some p.1
item_at xs p h =
    let r = is_numbered 0 xs p h in
    let at : p.0 ≡ r.0 = omega (arith, r.1) in ap (slice_get xs) at ∙ r.2

pub numbered_at : {X : Type 0} (from : ℕ) (xs : List X) (k : ℕ) (x : X) → slice_get xs k ≡ Some x
    → (i : ℕ) → i ≡ from + k → IsIn (enumerate_from from xs) (i, x)
numbered_at from [] k x e i at = absurd (cc)
numbered_at from (y ∷ xs) zero x e i at =
    let same : y ≡ x = cc in
    let first : from ≡ i = omega (arith, at) in inl (λ j. (first j, same j))
numbered_at from (y ∷ xs) (suc k) x e i at =
    inr (numbered_at (from + 1) xs k x e i (omega (arith, at)))

-- ---- Joined end to end.

pub in_joined : {X Y : Type 0} (f : X → List Y) (xs : List X) (y : Y) → IsIn (flat_map f xs) y
    → (x : X) × IsIn xs x × IsIn (f x) y
in_joined f [] y h = absurd h
in_joined f (x ∷ xs) y h = elim (IsIn-split (f x) (flat_map f xs) y h) [
  | inl here ↦ (x, inl refl, here)
  | inr later ↦ let r = in_joined f xs y later in (r.0, inr r.1, r.2)
]

pub joined_in : {X Y : Type 0} (f : X → List Y) (xs : List X) (x : X) (y : Y) → IsIn xs x
    → IsIn (f x) y → IsIn (flat_map f xs) y
joined_in f [] x y h there = absurd h
joined_in f (z ∷ xs) x y (inl same) there =
    IsIn-left (f z) (flat_map f xs) y (rw same there)
joined_in f (z ∷ xs) x y (inr later) there =
    IsIn-right (f z) (flat_map f xs) y (joined_in f xs x y later there)
