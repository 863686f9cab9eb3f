-- What is known about a text of which only the end has been read.
use Rattle.std.specs.Prelude.{◌≡◌, ℕ, ◌+◌, ◌<◌, Bool, List, length, drop, Option, is_some}
use Rattle.std.specs.Prelude.{vec_len, slice_get}
use Rattle.regex_hir.specs.Find.{first_from}
use Rattle.regex_hir.specs.Text.{is_boundary}
use Rattle.regex_nfa.specs.declared.nfa.Nfa.{Nfa}
use Rattle.am_scan.specs.Sight.{kind_beside, IsScanned}
use Rattle.am_labels.specs.PatternView.{start_at}
use Rattle.am_scan.specs.Closure.{leads_on, contains}
use Rattle.am_scan.specs.declared.byte_set.ByteSet.{ByteSet}
use Rattle.am_scan.specs.declared.sight.Sight.{Sight}
use Rattle.am_scan.specs.declared.pattern_scan.PatternScan.{PatternScan}
use Rattle.am_scan.specs.declared.pattern_state.PatternState.{PatternState}

-- What a state says about a text holds at the end of every scanned text that ends with it: the kind
-- of its first byte; whether a character begins there; which states lead to a match by reading that
-- byte; and whether a match begins at a character after the first byte.
-- Source: own choice.
-- Example: the empty text has no first byte, no state reads on, and no match begins later.
pub record FollowsText (nfa : Nfa) (sight : Sight) (bytes : ByteSet) (first : Option ℕ)
    (starts : Bool) (reads : ℕ → Bool) (later : Bool) (text : List ℕ) : Type 0 where
  pub kind : first ≡ kind_beside sight (slice_get text 0)
  pub boundary : starts ≡ is_boundary text 0
  pub each : (hay : List ℕ) (i : ℕ) → IsScanned bytes hay → drop i hay ≡ text
      → (q : ℕ) → q < vec_len nfa.states → reads q ≡ leads_on nfa hay q i
  pub others : (hay : List ℕ) (i : ℕ) → IsScanned bytes hay → drop i hay ≡ text
      → later ≡ is_some (first_from (start_at nfa hay) (length text) (i + 1))

-- A state follows a text: it is the state of the text, for a pattern.
-- Source: own choice.
-- Example: the state with which a scan begins follows the empty text.
unfoldable pub Follows : PatternScan → PatternState → List ℕ → Type 0
Follows scan state text =
    FollowsText scan.nfa scan.sight scan.bytes state.first state.starts
    (contains state.reads.items) state.later text
