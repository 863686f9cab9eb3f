-- What a table of the lines of a universe holds: each label with each of its values, written once.
use Rattle.std.specs.Prelude.{◌≡◌, ◌≤◌, ℕ, List, [], ◌++◌, length, map, Option, Some, None}
use Rattle.std.specs.Prelude.{codes, vec_capacity}
use Rattle.std.specs.Global.{Vec}
use Rattle.am_universe.specs.Universe.{Label}
use Rattle.am_universe.specs.WrittenLabelSet.{pair_text, line}

-- The text of a label with a value, with a comma in front. Absence has the empty text.
-- Source: own choice.
-- Example: `,team="db"`.
abbrev pub piece_text : List ℕ → Option (List ℕ) → List ℕ
piece_text name None = []
piece_text name (Some value) = codes "," ++ pair_text (name, value)

-- The pieces of a label, one for each of its values.
abbrev pub label_pieces : Label → List (List ℕ)
label_pieces label = map (piece_text label.name) label.values

-- The pieces of a label as they are kept in memory.
abbrev pub texts_of_pieces : Vec (Vec ℕ) → List (List ℕ)
texts_of_pieces pieces = map (λ piece. piece.items) pieces.items

-- A table holds the pieces of each label of a universe.
abbrev pub HasPieces : List Label → List (Vec (Vec ℕ)) → Type 0
HasPieces u labels = map texts_of_pieces labels ≡ map label_pieces u

-- There is room for the line of each list that has as many positions as there are labels.
abbrev pub HasRoom : List Label → ℕ → Type 0
HasRoom u room = (c : List ℕ) → length c ≡ length u → length (line u c) ≤ room

-- A table of a universe: it holds the pieces, and its buffer has room for each line.
pub record IsLineTable (u : List Label) (labels : List (Vec (Vec ℕ))) (buffer : Vec ℕ)
    : Type 0 where
  pub pieces : HasPieces u labels
  pub room : HasRoom u (vec_capacity buffer)
