-- The lines of alerts of which a question is true. (This project's own.)
use Rattle.std.specs.Prelude.{ℕ, List, [], ◌∷◌, map, length, codes, Option}
use Rattle.std.specs.Prelude.{◌==◌, if◌then◌else◌}
use Rattle.std.specs.List.{filter, enumerate_from}
use Rattle.std.specs.FinMap.{entries}
use Rattle.am_universe.specs.LabelSet.{LabelMap}
use Rattle.am_config.specs.ConfigFile.{Configuration}
use Rattle.am_report_texts.specs.Line.{Line, Report, Words, Value, Number, Texts, Labels}
use Rattle.am_report_texts.specs.Line.{Inhibitors}
use Rattle.am_report_texts.specs.ReceiverNames.{receiver_names}
use Rattle.am_report_texts.specs.declared.lines.Field.TheVariants as field_is
use Rattle.am_report_texts.specs.declared.lines.Level.TheVariants as level_is
use Rattle.am_eval.specs.World.{World}
use Rattle.am_eval.specs.Routing.{receivers}
use Rattle.am_eval.specs.Silencing.{silencers}
use Rattle.am_eval.specs.Inhibition.{inhibitors}
use Rattle.am_eval.specs.Question.{Question, satisfies}
use Rattle.am_alerts.specs.Intervals.{intervals}
use Rattle.am_alerts.specs.SilenceIds.{called}

-- What a line says: the position of an alert in its file, its labels, the receivers to which it
-- goes, by their positions, the silences that hide it, by their names, the rules and alerts that
-- inhibit it, by their positions, and the time intervals that may mute it, by their names.
pub record AlertLine : Type 0 where
  pub position : ℕ
  pub set : LabelMap
  pub receivers : List ℕ
  pub silencers : List (List ℕ)
  pub inhibitors : List (ℕ × ℕ)
  pub intervals : List (List ℕ)

-- ---- What is said.

-- The alerts of a world of which a question is true, each with its position, in their order.
-- Source: own choice.
-- Example: if only the second of three alerts is silenced, there is one for the question
-- `silenced`: that alert, with the position 1.
abbrev pub asked_alerts : World → Question → List (ℕ × LabelMap)
asked_alerts w q = filter (λ alert. satisfies w q alert.1) (enumerate_from 0 w.alerts)

-- What is true of an alert at a position of a world, whose silences have these identifiers.
abbrev pub line_of : World → List (Option (List ℕ)) → ℕ × LabelMap → AlertLine
line_of w ids alert = record {
  position = alert.0;
  set = alert.1;
  receivers = receivers alert.1 w.config;
  silencers = map (called ids) (silencers w alert.1);
  inhibitors = inhibitors w alert.1;
  intervals = intervals alert.1 w.config;
}

abbrev pub lines_of : World → List (Option (List ℕ)) → Question → List AlertLine
lines_of w ids q = map (line_of w ids) (asked_alerts w q)

-- ---- How it is written.

-- Words before a list, unless it is empty.
abbrev pub words_before : {X : Type 0} → List ℕ → List X → List ℕ
words_before words xs = if length xs == 0 then [] else words

-- The line of an alert: its position, its label set and its receivers, and then the silences that
-- hide it, the rules and alerts that inhibit it, and the time intervals that may mute it, if there
-- are any.
-- Source: own choice.
-- Example: `1 {team="db"} -> "db-mail" inhibited 0/0`, if the first alert inhibits the second one
-- by the first rule, and no silence hides it. At a route that is muted outside office hours, the
-- line ends in ` intervals "offhours"`.
abbrev pub alert_line : Configuration → AlertLine → Line
alert_line c line = record {
  level = level_is.Plain;
  pieces = Value field_is.Alert (Number line.position) ∷ Words (codes " ")
      ∷ Value field_is.Labels (Labels (entries line.set)) ∷ Words (codes " -> ")
      ∷ Value field_is.Receivers (Texts (receiver_names c line.receivers))
      ∷ Words (words_before (codes " silenced ") line.silencers)
      ∷ Value field_is.Silenced (Texts line.silencers)
      ∷ Words (words_before (codes " inhibited ") line.inhibitors)
      ∷ Value field_is.Inhibited (Inhibitors line.inhibitors)
      ∷ Words (words_before (codes " intervals ") line.intervals)
      ∷ Value field_is.Intervals (Texts line.intervals) ∷ [];
}

-- All lines, and then `# end`.
-- Source: own choice.
-- Example: if the question is true of no alert, it is just `# end`.
abbrev pub alerts_report : Configuration → List AlertLine → Report
alerts_report c lines = record {
  lines = map (alert_line c) lines;
  last = Words (codes "# end") ∷ [];
}
