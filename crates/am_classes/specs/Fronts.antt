-- What is before an end in each of some texts that ends with it.
use Rattle.std.specs.Prelude.{ℕ, List, [], ◌∷◌, length, take, map, filter, slice_index, ◌-◌}
use Rattle.std.specs.Prelude.{Bool, ◌&&◌, ◌==◌, nat_lt}

-- A text ends with a byte.
abbrev pub ends_with : ℕ → List ℕ → Bool
ends_with byte text = nat_lt 0 (length text) && slice_index text (length text - 1) == byte

-- A text without its last byte.
abbrev pub without_last : List ℕ → List ℕ
without_last text = take (length text - 1) text

-- What is before a byte in each of some texts that ends with it.
-- Source: own choice.
-- Example: of `db`, `web` and `ops`, two end with `b`. Before it they have `d` and `we`.
abbrev pub fronts_before : ℕ → List (List ℕ) → List (List ℕ)
fronts_before byte texts = map without_last (filter (ends_with byte) texts)

-- What is before an end in each of some texts that ends with it. Before the empty end, it is all of
-- each text.
-- Source: own choice.
-- Example: of `db`, `web` and `ops`, one ends with `eb`. Before that it has `w`.
abbrev pub fronts_of : List (List ℕ) → List ℕ → List (List ℕ)
fronts_of texts [] = texts
fronts_of texts (byte ∷ end) = fronts_before byte (fronts_of texts end)

-- A front is empty: the end is all of its text.
abbrev pub is_nothing : List ℕ → Bool
is_nothing front = length front == 0
