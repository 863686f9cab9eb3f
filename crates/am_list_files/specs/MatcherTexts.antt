-- Texts of matchers in a file: which list of matchers a text says, and its form. (Alertmanager
-- configuration reference 0.25, "<matcher>"; the order of the faults is this project's own.)
use Rattle.std.specs.Prelude.{◌≡◌, ℕ, List, [], length}
use Rattle.serde_json.specs.Data.{Data, string}
use Rattle.am_universe.specs.declared.kind.Kind.{Kind}
use Rattle.am_universe.specs.declared.kind.Kind.TheVariants as kinds
use Rattle.am_labels.specs.declared.limits.TheConstants.{MAX_MATCHERS}
use Rattle.am_labels.specs.Matcher.{Matcher}
use Rattle.am_labels.specs.MatcherText.{Spells}
use Rattle.am_labels.specs.MatcherReading.{read_list}
use Rattle.am_json.specs.Pointer.{Refusal, refusal_here, refusal_within}
use Rattle.am_json.specs.Reading.{Reading, ◌>>=◌, accept, accept_or, reading_within, check_count}
use Rattle.am_list_files.specs.MatcherFaults.{check_patterns}

-- A JSON value says a list of matchers: it is a text that spells them.
-- Source: Alertmanager configuration reference 0.25, "<matcher>".
-- Example: the text `{team=db, severity!="info"}` says the matchers `team="db"` and
-- `severity!="info"`. The text `team` says no list, and neither does the number 1.
abbrev pub SaysMatcherText : Data → List Matcher → Type 0
SaysMatcherText d matchers = (text : List ℕ) × (d ≡ string text) × Spells text matchers

-- The matchers of the text at `part` of the value that is looked at. Too many of them are a fault
-- at `limit_part`. By a law of `am_labels`, `read_list` gives the one list that a text `Spells`, or
-- none if it spells none.
unfoldable pub matcher_text_form : List ℕ → List ℕ → List ℕ → Reading (List Matcher)
matcher_text_form part limit_part text = do
  ms ← reading_within part (accept_or [] (read_list text) (refusal_here kinds.BadMatcher))
  _ ← reading_within limit_part (check_count MAX_MATCHERS (length ms))
  _ ← reading_within part (check_patterns ms)
  accept ms

-- The refusal of that text, by its kind: `limit` is at `limit_part`, and any other kind at `part`.
abbrev pub text_refusal : List ℕ → List ℕ → Kind → Refusal
text_refusal part limit_part kinds.Limit = refusal_within limit_part (refusal_here kinds.Limit)
text_refusal part limit_part kind = refusal_within part (refusal_here kind)
