use Rattle.std.proofs.Common.{◌≡◌, ◌++◌, ℕ, List, Option, length, map, drop, string_bytes}
use Rattle.std.specs.List.{filter, enumerate_from}
use Rattle.am_eval.specs.Question.{satisfies}
use Rattle.am_eval.specs.QuestionView.{question_view}
use Rattle.am_report_texts.specs.LineView.{line_view}
use Rattle.am_alerts.specs.AlertLines.{alert_line, line_of, lines_of}
use Rattle.am_alerts.specs.SilenceIds.{AreNames}
use Rattle.am_alerts.proofs.alert_lines.alerts_report.Given as goal

-- the lines so far, and then those of the alerts that are left, are all lines
abbrev pub invariant-loop-position : goal.invariant-loop-position
invariant-loop-position l =
    let w = l.outcomes in
    let q = question_view l.question in
    (ids : List (Option (List ℕ))) → AreNames ids (length w.silences) (map string_bytes l.names)
    → map line_view l.lines.items ++ map (alert_line w.config) (map (line_of w ids)
    (filter (λ alert. satisfies w q alert.1) (enumerate_from l.position (drop l.position w.alerts))))
    ≡ map (alert_line w.config) (lines_of w ids q)
