-- The numbers to which texts lead in a table. Texts are read from their end.
use Rattle.std.specs.Prelude.{ℕ, Bool, false, List, [], ◌∷◌, Option, Some, None}
use Rattle.std.specs.Prelude.{slice_get, slice_index}
use Rattle.am_scan.specs.declared.row.Row.{Row}

-- The number to which a byte of a class leads, by a row of the table.
abbrev pub next_in : Option Row → ℕ → ℕ
next_in None class = 0
next_in (Some row) class = slice_index row.next.items class

-- The number of a text. The empty text has 0, and a byte before a text leads on by its class.
-- Source: own choice; an automaton reads a word in this way, but here from the end.
-- Example: if a table leads from 0 to 1 by the class of `a`, the text `a` has the number 1.
abbrev pub number_in : List Row → List ℕ → List ℕ → ℕ
number_in rows classes [] = 0
number_in rows classes (b ∷ text) =
    next_in (slice_get rows (number_in rows classes text)) (slice_index classes b)

-- Whether the texts of a number are found.
abbrev pub found_at : Option Row → Bool
found_at None = false
found_at (Some row) = row.found

abbrev pub found_in : List Row → ℕ → Bool
found_in rows number = found_at (slice_get rows number)
