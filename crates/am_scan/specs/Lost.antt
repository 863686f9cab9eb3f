-- The numbers of a table whose texts are lost.
use Rattle.std.specs.Prelude.{◌≡◌, ℕ, Bool, true, false, List, slice_get, slice_index}
use Rattle.std.specs.Prelude.{slice_index_or}
use Rattle.am_scan.specs.declared.row.Row.{Row}
use Rattle.am_scan.specs.Numbers.{next_in, found_in}

-- Texts of marked numbers are not found.
abbrev pub AreUnfound : List Row → List Bool → Type 0
AreUnfound rows marks = (n : ℕ) → slice_index_or marks n false ≡ true → found_in rows n ≡ false

-- Each byte leads from a number to a marked one.
abbrev pub LeadsToMarked : List Row → List ℕ → List Bool → ℕ → Type 0
LeadsToMarked rows classes marks n =
    (b : ℕ) → slice_index_or marks (next_in (slice_get rows n) (slice_index classes b)) false ≡ true

-- Texts of marked numbers are lost: they are not found, and each byte leads to a marked number.
-- Source: own choice; in automata theory such states are dead.
-- Example: the pattern `db` finds no text that ends with `x`, so the number of `x` is lost.
pub record AreLost (rows : List Row) (classes : List ℕ) (lost : List Bool) : Type 0 where
  pub unfound : AreUnfound rows lost
  pub stays : (n : ℕ) → slice_index_or lost n false ≡ true → LeadsToMarked rows classes lost n
