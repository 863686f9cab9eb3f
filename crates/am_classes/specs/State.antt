-- How the matchers of a label treat a text of which only the end has been read.
use Rattle.std.specs.Prelude.{◌≡◌, ℕ, List, map, Some, slice_get, string_bytes}
use Rattle.am_classes.specs.Fronts.{fronts_of}
use Rattle.am_scan.specs.Automaton.{pattern_of}
use Rattle.am_scan.specs.Sight.{is_scanned}
use Rattle.am_classes.specs.declared.questions.Questions.{Questions}
use Rattle.am_classes.specs.declared.label_state.LabelState.{LabelState}
use Rattle.am_classes.specs.Utf8.{tail_with}
use Rattle.am_classes.specs.Live.{live_of}

-- The named texts, and the patterns.
abbrev pub named_texts : Questions → List (List ℕ)
named_texts q = map string_bytes q.texts.items

abbrev pub patterns_of : Questions → List (List ℕ)
patterns_of q = map pattern_of q.automata.items

-- A text is a named text.
abbrev pub IsNamed : Questions → List ℕ → Type 0
IsNamed q text = (k : ℕ) × (slice_get (named_texts q) k ≡ Some text)

-- A state follows a text. It has the tail of the text, if texts have only the bytes that are tried;
-- what is before the text in each named text that ends with it; and the live patterns of the text.
-- Source: own choice.
-- Example: the state with which an exploration begins follows the empty text.
pub record FollowsLabel (q : Questions) (state : LabelState) (text : List ℕ) : Type 0 where
  pub tail : tail_with (is_scanned q.bytes) text ≡ Some state.tail
  pub fronts : map (λ f. f.now) state.fronts.items ≡ fronts_of (named_texts q) text
  pub live : state.live.items ≡ live_of q.automata.items text
