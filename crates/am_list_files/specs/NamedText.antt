-- A name and a text in an object of names and texts. (The objects `match` and `match_re` of the
-- Alertmanager configuration reference 0.25, "<route>", and `labels` of an alert.)
use Rattle.std.specs.Prelude.{◌≡◌, ◌≢◌, ℕ, List, []}
use Rattle.serde_json.specs.Data.{Data, string}
use Rattle.am_json.specs.Reading.{Reading, ◌>>=◌, refuse_for, as_text}
use Rattle.am_list_files.specs.MatcherFaults.{label_name_fault}

-- A member of an object says a name, which is not empty, and a text.
abbrev pub SaysNamedText : List ℕ × Data → List ℕ → List ℕ → Type 0
SaysNamedText pair name text = (name ≡ pair.0) × (pair.0 ≢ []) × (pair.1 ≡ string text)

-- The text of a name in an object of names and texts.
unfoldable pub named_text_form : List ℕ → Data → Reading (List ℕ)
named_text_form name d = do
  _ ← refuse_for (label_name_fault name)
  as_text d
