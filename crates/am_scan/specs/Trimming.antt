-- Compiled patterns that do the same in scanned texts as larger ones.
use Rattle.std.specs.Prelude.{◌≡◌, ℕ, ◌<◌, true, List, length, is_some, option_map, slice_index}
use Rattle.std.specs.Prelude.{vec_len}
use Rattle.regex_hir.specs.Find.{first_between}
use Rattle.regex_nfa.specs.Run.{state_of}
use Rattle.regex_nfa.specs.States.{next_on}
use Rattle.regex_nfa.specs.declared.nfa.Nfa.{Nfa}
use Rattle.regex_nfa.specs.declared.state.State.{State}
use Rattle.regex_nfa.specs.declared.state.State.TheVariants.{Split, Save, Look, Match, Fail}
use Rattle.am_labels.specs.Pattern.{finds}
use Rattle.am_labels.specs.PatternView.{start_at}
use Rattle.am_scan.specs.declared.byte_set.ByteSet.{ByteSet}
use Rattle.am_scan.specs.Sight.{is_scanned, IsScanned}

-- What a state does without reading a byte, with other names for the states to which it leads. A
-- state that reads a byte does no more than `Fail`.
-- Source: own choice.
-- Example: if the names are those that the states have, a split is as it is.
abbrev pub idle_form : (ℕ → ℕ) → State → State
idle_form name (Split first second) = Split (name first) (name second)
idle_form name (Save slot next) = Save slot (name next)
idle_form name (Look l next) = Look l (name next)
idle_form name Match = Match
idle_form name _ = Fail

-- A state does the same as its origin: without reading a byte, and by reading any scanned byte.
-- Source: own choice; relations of this kind between automata are called simulations.
-- Example: if only ASCII is scanned, it does not matter where other bytes lead.
pub record DoesSame (bytes : ByteSet) (trimmed nfa : Nfa) (origins : List ℕ) (id : ℕ) : Type 0 where
  pub idle : idle_form (slice_index origins) (state_of trimmed id)
      ≡ idle_form (λ q. q) (state_of nfa (slice_index origins id))
  pub reads : (b : ℕ) → is_scanned bytes b ≡ true
      → option_map (slice_index origins) (next_on trimmed.transitions.items (state_of trimmed id) b)
      ≡ next_on nfa.transitions.items (state_of nfa (slice_index origins id)) b

-- A compiled pattern is another one, trimmed for scanned texts: each state does the same as its
-- origin, and the origin of the start is the start.
-- Source: own choice; the term is that of automata, which are trimmed to the states that matter.
-- Example: `\w`, trimmed for ASCII, has no states for other characters.
pub record IsTrimmed (bytes : ByteSet) (trimmed nfa : Nfa) (origins : List ℕ) : Type 0 where
  pub start : slice_index origins trimmed.start ≡ nfa.start
  pub each : (id : ℕ) → id < vec_len trimmed.states → DoesSame bytes trimmed nfa origins id

-- A compiled pattern matches somewhere in a scanned text exactly if the pattern finds the text.
-- Source: own choice.
-- Example: if only ASCII is scanned, what it does in the text `é` does not matter.
abbrev pub IsScannedSearch : ByteSet → Nfa → List ℕ → Type 0
IsScannedSearch bytes nfa p =
    (text : List ℕ) → IsScanned bytes text
    → is_some (first_between (start_at nfa text) 0 (length text)) ≡ finds p text
