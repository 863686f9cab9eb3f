-- How a pattern treats a byte.
use Rattle.std.specs.Prelude.{◌≡◌, ℕ, zero, suc, List, [], ◌∷◌, ◌++◌, Option, Some, None, vec_len}
use Rattle.regex_hir.specs.Text.{is_boundary}
use Rattle.regex_nfa.specs.Run.{state_of}
use Rattle.regex_nfa.specs.States.{next_on}
use Rattle.regex_nfa.specs.declared.nfa.Nfa.{Nfa}
use Rattle.am_scan.specs.declared.sight.Sight.{Sight}
use Rattle.am_scan.specs.declared.column.Edge.{Edge}
use Rattle.am_scan.specs.declared.column.Column.{Column}
use Rattle.am_scan.specs.Sight.{kind_of}

-- The step from a state, if there is one.
abbrev pub edge_from : ℕ → Option ℕ → List Edge
edge_from q None = []
edge_from q (Some r) = record { from = q; to = r } ∷ []

-- The steps on which the first states of a pattern read a byte.
-- Source: own choice.
-- Example: if two states each read `a` and go to the other, `a` takes two steps.
abbrev pub first_edges : Nfa → ℕ → ℕ → List Edge
first_edges nfa b zero = []
first_edges nfa b (suc q) =
    first_edges nfa b q ++ edge_from q (next_on nfa.transitions.items (state_of nfa q) b)

-- The steps on which any state of a pattern reads a byte.
abbrev pub edges_of : Nfa → ℕ → List Edge
edges_of nfa b = first_edges nfa b (vec_len nfa.states)

-- A column says how the pattern treats a byte: the steps on which the byte is read, its kind, and
-- whether a character begins with it.
-- Source: own choice.
-- Example: for the pattern `db`, the bytes `x` and `y` have the same column, and `d` and `b` have
-- others.
pub record IsColumn (nfa : Nfa) (sight : Sight) (b : ℕ) (column : Column) : Type 0 where
  pub edges : column.edges.items ≡ edges_of nfa b
  pub kind : column.kind ≡ kind_of sight b
  pub starts : column.starts ≡ is_boundary (b ∷ []) 0
