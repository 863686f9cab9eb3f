-- Many patterns at once.
use Rattle.std.specs.Prelude.{◌≡◌, ◌∷◌, ℕ, List, map, true, Some, slice_get, Contains}
use Rattle.std.specs.List.{AllByRecursion}
use Rattle.am_labels.specs.Pattern.{finds}
use Rattle.am_labels.specs.Wildcards.{is_wildcards}
use Rattle.am_scan.specs.WildcardStates.{HasManyStates}
use Rattle.am_scan.specs.Automaton.{number_of, pattern_of, scanned_bytes}
use Rattle.am_scan.specs.Sight.{IsScanned}
use Rattle.am_classes.specs.Places.{places_where}
use Rattle.am_scan.specs.declared.byte_set.ByteSet.{ByteSet}
use Rattle.am_scan.specs.declared.pattern_automaton.PatternAutomaton.{PatternAutomaton}
use denote.Ref.{Bor}

-- The numbers of a text, one for each pattern.
-- Source: own choice.
-- Example: the numbers of the empty text are those with which the automata begin.
abbrev pub numbers_of : List PatternAutomaton → List ℕ → List ℕ
numbers_of automata text = map (λ a. number_of a text) automata

-- Patterns treat two bytes alike: with either byte before it, a text has the same numbers.
-- Source: own choice.
-- Example: `db.*` treats `x` and `y` alike, but not `d` and `b`.
abbrev pub MakeSame : List PatternAutomaton → ℕ → ℕ → Type 0
MakeSame automata one other =
    (text : List ℕ) → numbers_of automata (one ∷ text) ≡ numbers_of automata (other ∷ text)

-- For each byte, a byte that the patterns treat like it.
-- Source: own choice.
-- Example: for `db.*` it may be `x` for `y`. For `d` and `b` it is the byte itself.
abbrev pub AreClasses : List PatternAutomaton → List ℕ → Type 0
AreClasses automata classes =
    (byte class : ℕ) → slice_get classes byte ≡ Some class → MakeSame automata class byte

-- Automata are those of the patterns at their places.
abbrev pub AreAutomataOf : List (Bor (List ℕ)) → List PatternAutomaton → Type 0
AreAutomataOf patterns automata =
    (k : ℕ) (automaton : PatternAutomaton) (pattern : Bor (List ℕ))
    → slice_get automata k ≡ Some automaton → slice_get patterns k ≡ Some pattern
    → pattern_of automaton ≡ pattern.now

-- Automata read the texts that have only certain bytes.
-- Source: own choice.
-- Example: the automaton of `\bdb` is one for the bytes of ASCII, and not for all bytes.
abbrev pub AreFor : ByteSet → List PatternAutomaton → Type 0
AreFor bytes automata =
    (k : ℕ) (a : PatternAutomaton) → slice_get automata k ≡ Some a → scanned_bytes a ≡ bytes

-- A text is one that all automata read.
abbrev pub AreScanned : List PatternAutomaton → List ℕ → Type 0
AreScanned automata text = AllByRecursion (λ a. IsScanned (scanned_bytes a) text) automata

-- The places of the patterns that find a text.
-- Source: own choice.
-- Example: of `db.*` and `web` only the first finds `db2`, so the place is 0.
abbrev pub found_by : List PatternAutomaton → List ℕ → List ℕ
found_by automata text = places_where (λ a. finds (pattern_of a) text) automata

-- One of some patterns may have no automaton: if it has wildcards alone, it has too many states.
-- Source: own choice.
-- Example: over Unicode, `\bdb` has none. Each of `db.*` and `web` has one.
abbrev pub MayLackAutomaton : List (List ℕ) → Type 0
MayLackAutomaton patterns =
    (p : List ℕ) × Contains patterns p × (is_wildcards p ≡ true → HasManyStates p)
