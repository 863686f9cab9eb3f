-- The lines of outcomes under one configuration. (This project's own.)
use Rattle.std.specs.Prelude.{ℕ, List, [], ◌∷◌, map, codes, slice_get, unwrap_or}
use Rattle.am_universe.specs.Universe.{Label}
use Rattle.am_universe.specs.LabelSet.{label_pairs}
use Rattle.am_config.specs.ConfigFile.{Configuration}
use Rattle.am_report_texts.specs.Line.{Line, Piece, Report, Words, Value, Texts, Labels}
use Rattle.am_report_texts.specs.ReceiverNames.{receiver_names}
use Rattle.am_report_texts.specs.declared.lines.Field.TheVariants as field_is
use Rattle.am_report_texts.specs.declared.lines.Level.TheVariants as level_is

-- The list of an outcome at a position, or no items if it has no such list.
abbrev pub list_at : ℕ → List (List ℕ) → List ℕ
list_at i lists = unwrap_or (slice_get lists i) []

-- A label set, behind other pieces of a line.
abbrev pub labels_pieces : List (List ℕ × List ℕ) → List Piece
labels_pieces labels = Words (codes " ") ∷ Value field_is.Labels (Labels labels) ∷ []

-- The line of an outcome under one configuration: the names of its receivers, and the label set of
-- its first choice. The report has all lines, and then `# end`.
-- Source: own choice.
-- Example: `"db-mail" {team="db"}`.
abbrev pub outcome_line : List Label → Configuration → List (List ℕ) × List ℕ → Line
outcome_line u c outcome = record {
  level = level_is.Plain;
  pieces = Value field_is.Receivers (Texts (receiver_names c (list_at 0 outcome.0)))
      ∷ labels_pieces (label_pairs u outcome.1);
}

abbrev pub outcomes_report : List Label → Configuration → List (List (List ℕ) × List ℕ) → Report
outcomes_report u c outcomes = record {
  lines = map (outcome_line u c) outcomes;
  last = Words (codes "# end") ∷ [];
}
