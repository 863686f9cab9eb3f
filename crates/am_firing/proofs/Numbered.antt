-- One more item of a numbered list, and one more row of a table.
use Rattle.std.proofs.Common.{◌≡◌, ◌+◌, ◌≤◌, ℕ, suc, zero, List, [], ◌∷◌, ◌++◌, length, take, map}
use Rattle.std.proofs.Common.{get_or, Some, refl, sym, ap, ◌∙◌, arith}
use Rattle.std.specs.Prelude.{slice_get}
use Rattle.std.specs.List.{flat_map, enumerate_from, zip, range_with_len}
use Rattle.std.proofs.lemmas.List.{take_more, take_all, flat_map_more, get_or-map, length-map}
use Rattle.std.proofs.lemmas.List.FromFn.{length-enumerate_from, get_or-enumerate_from}
use Rattle.std.proofs.lemmas.List.FromFn.{length-map-range_with_len, get_or-map-range_with_len}
use Rattle.std.proofs.lemmas.Option.{get_or_from_slice_get, slice_get_within}

-- ---- Numbered items.

pub numbered_more : {X : Type 0} (xs : List X) (i : ℕ) (x : X) → slice_get xs i ≡ Some x
    → take (i + 1) (enumerate_from 0 xs) ≡ take i (enumerate_from 0 xs) ++ (i, x) ∷ []
numbered_more xs i x at =
    let within = slice_get_within xs i x at in
    let same : 0 + i ≡ i = omega arith in
    rw (
      take_more (enumerate_from 0 xs) i (i, x) (omega (arith, length-enumerate_from 0 xs)),
      get_or-enumerate_from 0 xs i (i, x) within,
      get_or_from_slice_get xs i x x at,
      same,
    ) refl

module _ {X L : Type 0} (f : ℕ × X → List L) where
  pub one_more : (xs : List X) (i : ℕ) (x : X) (before now next : List L) → slice_get xs i ≡ Some x
      → now ≡ before ++ flat_map f (take i (enumerate_from 0 xs)) → next ≡ now ++ f (i, x)
      → next ≡ before ++ flat_map f (take (i + 1) (enumerate_from 0 xs))
  one_more xs i x before now next at so_far put =
      rw (numbered_more xs i x at, ← flat_map_more, put, so_far)

  pub all_done : (xs : List X) (i : ℕ) (before now : List L) → length xs ≤ i
      → now ≡ before ++ flat_map f (take i (enumerate_from 0 xs))
      → now ≡ before ++ flat_map f (enumerate_from 0 xs)
  all_done xs i before now all so_far =
      rw (take_all i (enumerate_from 0 xs) (omega (arith, length-enumerate_from 0 xs))) at so_far

pub zipped_at : {X Y : Type 0} (xs : List X) (ys : List Y) (i : ℕ) (x : X) (y : Y)
    → slice_get xs i ≡ Some x → slice_get ys i ≡ Some y → slice_get (zip xs ys) i ≡ Some (x, y)
zipped_at [] ys i x y at there = absurd (cc)
zipped_at (z ∷ xs) [] i x y at there = absurd (cc)
zipped_at (z ∷ xs) (w ∷ ys) zero x y at there =
    let a : z ≡ x = cc in
    let b : w ≡ y = cc in rw (a, b) refl
zipped_at (z ∷ xs) (w ∷ ys) (suc i) x y at there = zipped_at xs ys i x y at there

-- ---- Tables.

-- a row of a table that is made position by position
pub row_at : {V Y : Type 0} (view : V → Y) (f : ℕ → Y) (rows : List V) (n k : ℕ) (row : V)
    → map view rows ≡ map f (range_with_len 0 n) → slice_get rows k ≡ Some row → view row ≡ f k
row_at view f rows n k row all at =
    let within = slice_get_within rows k row at in
    let long : length rows ≡ n = sym (length-map rows view) ∙ ap length all ∙ length-map-range_with_len f 0 n in
    ap view (sym (get_or_from_slice_get rows k row row at))
    ∙ sym (get_or-map view rows k row (view row) within)
    ∙ ap (λ ys. get_or ys k (view row)) all
    ∙ get_or-map-range_with_len f 0 n k k (view row) (omega arith) (omega arith)

pub rows_long : {V Y : Type 0} (view : V → Y) (f : ℕ → Y) (rows : List V) (n : ℕ)
    → map view rows ≡ map f (range_with_len 0 n) → length rows ≡ n
rows_long view f rows n all =
    sym (length-map rows view) ∙ ap length all ∙ length-map-range_with_len f 0 n
