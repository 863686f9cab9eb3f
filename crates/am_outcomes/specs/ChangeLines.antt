-- The report of a comparison. (This project's own.)
use Rattle.std.specs.Prelude.{ℕ, ◌+◌, ◌==◌, ◌||◌, nat_lt, List, [], ◌∷◌, ◌++◌, map}
use Rattle.std.specs.Prelude.{length, codes, if◌then◌else◌, Option, Some, None}
use Rattle.am_config.specs.ConfigFile.{Configuration}
use Rattle.am_config.specs.WholeConfig.{WholeConfiguration}
use Rattle.am_report_texts.specs.Line.{Line, Piece, Report, Words, Value, Number, Text, Texts, Word}
use Rattle.am_report_texts.specs.Line.{Names}
use Rattle.am_report_texts.specs.Plural.{plural}
use Rattle.am_report_texts.specs.declared.lines.Field.TheVariants as field_is
use Rattle.am_report_texts.specs.declared.lines.Level.TheVariants as level_is
use Rattle.am_differences.specs.Options.{option_name}
use Rattle.am_differences.specs.PartLines.{part_lines}
use Rattle.am_outcomes.specs.Handling.{same_names}
use Rattle.am_outcomes.specs.OutcomeLines.{labels_pieces}
use Rattle.am_outcomes.specs.Changes.{old_names, new_names, options_in, losses, gains}
use Rattle.am_outcomes.specs.Changes.{ShownChange, without_groups}

-- The line of a receiver that loses or gains alerts, with the labels of one of them.
-- Source: own choice.
-- Example: `"db-pager" loses alerts such as {team="db"}`.
abbrev pub receiver_line : List ℕ → List ℕ × List (List ℕ × List ℕ) → Line
receiver_line word found = record {
  level = level_is.Plain;
  pieces = Value field_is.Receiver (Text found.0) ∷ Words (codes " ")
      ∷ Value field_is.Kind (Word word) ∷ Words (codes " alerts such as")
      ∷ labels_pieces found.1;
}

-- The line of a change: the names of the receivers, under both configurations if they differ; the
-- options that differ at an end with a receiver of the same name, if there are any; and the labels
-- of an alert. If the change is one of the alerts of a rule, the group of the rule and the labels
-- stand in front.
-- Source: own choice.
-- Example: `"db-mail" -> "web-pager" {team="web"}`, `"db-pager" other repeat_interval {team="db"}`,
-- and `"db-pager" -> "audit-log","db-pager" other mute_time_intervals {team="db"}`. With a group,
-- `"db" {alertname="DiskFull"}: "db-pager" other repeat_interval`.
abbrev pub receivers_pieces : Configuration → Configuration → List (List ℕ) → List Piece
receivers_pieces old new lists =
    if same_names (old_names old lists) (new_names new lists)
    then Value field_is.Receivers (Texts (new_names new lists)) ∷ []
    else Value field_is.Old (Texts (old_names old lists)) ∷ Words (codes " -> ")
    ∷ Value field_is.New (Texts (new_names new lists)) ∷ []

abbrev pub options_pieces : List ℕ → List Piece
options_pieces [] = []
options_pieces (k ∷ ks) =
    Words (codes " other ") ∷ Value field_is.Options (Names (map option_name (k ∷ ks))) ∷ []

abbrev pub changed_pieces : Configuration → Configuration → List (List ℕ) → List Piece
changed_pieces old new lists =
    receivers_pieces old new lists ++ options_pieces (options_in lists)

abbrev pub change_pieces :
    Option (List ℕ) → List (List ℕ × List ℕ) → List Piece → List Piece
change_pieces None labels changed = changed ++ labels_pieces labels
change_pieces (Some group) labels changed =
    Value field_is.Group (Text group) ∷ labels_pieces labels ++ Words (codes ": ") ∷ changed

abbrev pub change_line : Configuration → Configuration → ShownChange → Line
change_line old new change = record {
  level = level_is.Plain;
  pieces = change_pieces change.group change.labels (changed_pieces old new change.lists);
}

-- The last line: the number of changes, and those of the receivers that lose alerts and that gain
-- some, if there are any.
-- Source: own choice.
-- Example: `# 25 changes, 1 receiver loses alerts, 2 gain`, and `# 0 changes`.
abbrev pub receiver_counts : ℕ → ℕ → List Piece
receiver_counts lost gained =
    Words (codes ", ") ∷ Value field_is.Losses (Number lost) ∷ Words (codes " receiver")
    ∷ Words (plural lost)
    ∷ Words (if lost == 1 then codes " loses alerts, " else codes " lose alerts, ")
    ∷ Value field_is.Gains (Number gained)
    ∷ Words (if gained == 1 then codes " gains" else codes " gain") ∷ []

abbrev pub count_pieces : ℕ → ℕ → ℕ → List Piece
count_pieces changes lost gained =
    Words (codes "# ") ∷ Value field_is.Changes (Number changes) ∷ Words (codes " change")
    ∷ Words (plural changes)
    ∷ (if nat_lt 0 lost || nat_lt 0 gained then receiver_counts lost gained else [])

-- The number of changes: those of outcomes, and the parts of the files that differ.
abbrev pub count_changes : WholeConfiguration → WholeConfiguration → List ShownChange → ℕ
count_changes old new changes = length changes + length (part_lines old new)

-- The report: the receivers that lose alerts, those that gain some, the changes of outcomes, the
-- parts that differ, and the counts.
abbrev pub changes_report : WholeConfiguration → WholeConfiguration → List ShownChange → Report
changes_report old new changes =
    let lost = losses old.config new.config (without_groups changes) in
    let gained = gains old.config new.config (without_groups changes) in
    record {
      lines = map (receiver_line (codes "loses")) lost
          ++ (map (receiver_line (codes "gains")) gained
          ++ (map (change_line old.config new.config) changes ++ part_lines old new));
      last = count_pieces (count_changes old new changes) (length lost) (length gained);
    }
