-- The automaton of a pattern, and how it is made.
use Rattle.std.specs.Prelude.{◌≡◌, ℕ, ◌<◌, Bool, true, List, [], ◌∷◌, length, Some, slice_get}
use Rattle.std.specs.Prelude.{false, slice_index, slice_index_or, string_bytes, vec_len}
use Rattle.am_labels.specs.Pattern.{finds}
use Rattle.regex_nfa.specs.declared.nfa.Nfa.{Nfa}
use Rattle.am_scan.specs.declared.byte_set.ByteSet.{ByteSet}
use Rattle.am_scan.specs.declared.column.Column.{Column}
use Rattle.am_scan.specs.declared.columns.Columns.{Columns}
use Rattle.am_scan.specs.declared.steps.Steps.{Steps}
use Rattle.am_scan.specs.declared.row.Row.{Row}
use Rattle.am_scan.specs.declared.pattern_scan.PatternScan.{PatternScan}
use Rattle.am_scan.specs.declared.pattern_state.PatternState.{PatternState}
use Rattle.am_scan.specs.declared.pattern_automaton.PatternAutomaton.{PatternAutomaton}
use Rattle.am_scan.specs.Sight.{is_scanned, IsScanned}
use Rattle.am_scan.specs.Closure.{contains}
use Rattle.am_scan.specs.Column.{IsColumn}
use Rattle.am_scan.specs.Arrivals.{AreArrivals, items_at}
use Rattle.am_scan.specs.Scan.{Follows}
use Rattle.am_scan.specs.Numbers.{number_in}

-- The class of a scanned byte, if it has one yet, is the position of its column.
abbrev pub AreClasses : PatternScan → List Column → List ℕ → Type 0
AreClasses scan columns classes =
    (b class : ℕ) → slice_get classes b ≡ Some class → is_scanned scan.bytes b ≡ true
    → (column : Column) × (slice_get columns class ≡ Some column)
    × IsColumn scan.nfa scan.sight b column

-- Each element of a list keeps its position.
abbrev pub Grows : {X : Type 0} → List X → List X → Type 0
Grows {X = X} old new = (k : ℕ) (x : X) → slice_get old k ≡ Some x → slice_get new k ≡ Some x

-- A byte of a column, put before a text, leads from one state to another.
-- Source: own choice.
-- Example: for the pattern `db`, `d` leads from the state of `b` to that of `db`.
abbrev pub LeadsTo : PatternScan → Column → PatternState → PatternState → Type 0
LeadsTo scan column state next =
    (byte : ℕ) (text : List ℕ) → IsColumn scan.nfa scan.sight byte column
    → Follows scan state text → Follows scan next (byte ∷ text)

-- The steps to each state are listed, for each state of a compiled pattern.
pub record IsIndexed (nfa : Nfa) (columns : Columns) : Type 0 where
  pub count : vec_len columns.arrivals ≡ vec_len nfa.states
  pub each : AreArrivals columns.columns.items columns.arrivals.items

-- A state is made from what bytes of a kind make of a text, for a class of bytes.
pub record IsNextBy (steps : Steps) (class : ℕ) (starts : Bool) (next : PatternState) : Type 0 where
  pub first : next.first ≡ Some steps.kind
  pub starts_is : next.starts ≡ starts
  pub reads : (q : ℕ) → contains next.reads.items q ≡ contains (items_at steps.reads.items class) q
  pub later : next.later ≡ steps.later

-- What bytes of a kind make of the texts of a state: each byte of a column of this kind leads to
-- the state that is made for the column.
-- Source: own choice.
-- Example: for the pattern `db`, with all bytes of one kind, `d` leads from the state of `b` to
-- that of `db`.
abbrev pub AreSteps : PatternScan → List Column → PatternState → Steps → Type 0
AreSteps scan columns state steps =
    (class : ℕ) (column : Column) (next : PatternState) → slice_get columns class ≡ Some column
    → column.kind ≡ steps.kind → IsNextBy steps class column.starts next
    → LeadsTo scan column state next

-- For each column, the state to which a byte of it leads.
abbrev pub AreNext : PatternScan → List Column → PatternState → List PatternState → Type 0
AreNext scan columns state nexts =
    (k : ℕ) (column : Column) (next : PatternState) → slice_get columns k ≡ Some column
    → slice_get nexts k ≡ Some next → LeadsTo scan column state next

-- The state with a number serves for a given one: it follows every text that the given one follows.
abbrev pub IsNumber : List PatternState → PatternState → ℕ → Type 0
IsNumber states state number =
    (other : PatternState) × (slice_get states number ≡ Some other)
    × ((scan : PatternScan) (text : List ℕ) → Follows scan state text → Follows scan other text)

-- The same for some numbers, each with the state at its position.
abbrev pub AreNumbers : List PatternState → List PatternState → List ℕ → Type 0
AreNumbers states these numbers =
    (k : ℕ) (state : PatternState) (number : ℕ) → slice_get these k ≡ Some state
    → slice_get numbers k ≡ Some number → IsNumber states state number

-- A row says where the texts of a state lead, and whether the pattern finds them.
-- Source: own choice.
-- Example: for the pattern `db`, the row of the empty text leads by `b` to the state of `b`, and
-- says that the pattern does not find the empty text.
pub record IsRow (scan : PatternScan) (columns : List Column) (states : List PatternState)
    (state : PatternState) (row : Row) : Type 0 where
  pub count : vec_len row.next ≡ length columns
  pub leads : (k : ℕ) (column : Column) (number : ℕ) → slice_get columns k ≡ Some column
      → slice_get row.next.items k ≡ Some number → (next : PatternState)
      × (slice_get states number ≡ Some next) × LeadsTo scan column state next
  pub found : (text : List ℕ) → Follows scan state text → IsScanned scan.bytes text
      → row.found ≡ finds (string_bytes scan.pattern) text

-- There is a row for each state, and the first state is that of the empty text.
pub record AreRows (scan : PatternScan) (columns : List Column) (states : List PatternState)
    (rows : List Row) : Type 0 where
  pub count : length rows ≡ length states
  pub some : 0 < length states
  pub first : (state : PatternState) → slice_get states 0 ≡ Some state → Follows scan state []
  pub each : (k : ℕ) (state : PatternState) (row : Row) → slice_get states k ≡ Some state
      → slice_get rows k ≡ Some row → IsRow scan columns states state row

-- The number to which a text leads.
-- Source: own choice; an automaton reads a word in this way, but here from the end.
-- Example: the empty text leads to 0.
unfoldable pub number_of : PatternAutomaton → List ℕ → ℕ
number_of automaton text = number_in automaton.rows.items automaton.classes.items text

-- The class of a byte.
-- Source: own choice.
-- Example: for the pattern `db`, the bytes `x` and `y` have the same class.
unfoldable pub class_of : PatternAutomaton → ℕ → ℕ
class_of automaton b = slice_index automaton.classes.items b

-- The bytes that a text may have, so that the automaton reads it.
-- Source: own choice.
-- Example: the automaton of `\bdb` reads bytes of ASCII alone. With other bytes, this pattern has
-- none.
unfoldable pub scanned_bytes : PatternAutomaton → ByteSet
scanned_bytes automaton = automaton.bytes

-- The text of the pattern, without the anchors.
-- Source: own choice.
-- Example: for the automaton of `db|web`, it is `db|web`.
unfoldable pub pattern_of : PatternAutomaton → List ℕ
pattern_of automaton = string_bytes automaton.pattern

-- The texts of a number are lost: the pattern finds none of them, whatever comes before them.
-- Source: own choice; in automata theory such states are dead.
-- Example: for the pattern `db`, the number of the text `x` is lost.
unfoldable pub is_lost : PatternAutomaton → ℕ → Bool
is_lost automaton number = slice_index_or automaton.lost.items number false
