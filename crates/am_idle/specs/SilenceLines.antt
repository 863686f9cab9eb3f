-- What is said of a silence, as lines. (This project's own.)
use Rattle.std.specs.Prelude.{ℕ, List, [], ◌∷◌, Option, Some, None, codes}
use Rattle.am_list_files.specs.SilencesFile.{Silence}
use Rattle.am_report_texts.specs.Line.{Line, Words, Value, Word, Number, Matchers}
use Rattle.am_report_texts.specs.declared.lines.Field.TheVariants as field_is
use Rattle.am_report_texts.specs.declared.lines.Level.{Level}
use Rattle.am_report_texts.specs.declared.lines.Level.TheVariants as level_is
use Rattle.am_idle.specs.declared.silences.SilenceFinding.{SilenceFinding}
use Rattle.am_idle.specs.declared.silences.SilenceFinding.TheVariants as finding_is

-- The word for what is said of a silence, and what it says of the alerts that match.
abbrev pub silence_kind : SilenceFinding → List ℕ
silence_kind finding_is.Idle = codes "idle"
silence_kind finding_is.All = codes "all"
silence_kind finding_is.Unused = codes "unused"
silence_kind finding_is.Unproved = codes "unproved"
silence_kind (finding_is.Undecided evidence) = codes "undecided"

abbrev pub silence_reason : SilenceFinding → List ℕ
silence_reason finding_is.Idle = codes "no alert matches"
silence_reason finding_is.All = codes "every ordinary alert with an alertname matches"
silence_reason finding_is.Unused = codes "no alert of the file matches"
silence_reason finding_is.Unproved = codes "it is not known which alerts match"
silence_reason (finding_is.Undecided evidence) = codes "it is not known which alerts match"

-- A silence that hides no alert, or all of them, or that is undecided, is a finding. One that is
-- unused or unproved is a note.
abbrev pub silence_level : SilenceFinding → Level
silence_level finding_is.Idle = level_is.Finding
silence_level finding_is.All = level_is.Finding
silence_level finding_is.Unused = level_is.Note
silence_level finding_is.Unproved = level_is.Note
silence_level (finding_is.Undecided evidence) = level_is.Finding

-- The line of the silence at a position; and the lines of a silence: none if nothing is said of it.
-- Source: own choice.
-- Example: `silence 3 idle: no alert matches {team="db",team="web"}`.
abbrev pub silence_line : ℕ → Silence → SilenceFinding → Line
silence_line position silence finding = record {
  level = silence_level finding;
  pieces = Words (codes "silence ") ∷ Value field_is.Silence (Number position)
      ∷ Words (codes " ") ∷ Value field_is.Kind (Word (silence_kind finding))
      ∷ Words (codes ": ") ∷ Value field_is.Reason (Word (silence_reason finding))
      ∷ Words (codes " ") ∷ Value field_is.Matchers (Matchers silence.matchers) ∷ [];
}

abbrev pub silence_lines : ℕ → Silence → Option SilenceFinding → List Line
silence_lines position silence None = []
silence_lines position silence (Some finding) = silence_line position silence finding ∷ []
