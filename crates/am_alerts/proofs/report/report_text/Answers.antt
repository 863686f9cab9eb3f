use Rattle.std.proofs.Common.{◌<◌, length, map, ap, ◌∙◌, subst, arith, string_bytes}
use Rattle.std.proofs.lemmas.Result.{IfOk-weaker}
use Rattle.am_files.specs.Files.{Files}
use Rattle.am_eval.specs.World.{World}
use Rattle.am_eval.specs.QuestionView.{question_view}
use Rattle.am_report_texts.specs.Written.{IsWritten}
use Rattle.am_alerts.specs.SilenceIds.{AreNames, name_at, called, ids_of_file}
use Rattle.am_alerts.specs.AlertLines.{alerts_report, lines_of}
use Rattle.am_alerts.proofs.report.report_text.Goals as goal

pub returns : goal.returns
returns c =
    let ids = ids_of_file c.args.files.now.silences in
    let world = c.in_ok-outcomes.ensures.world in
    let count = c.len.ensures.count ∙ ap length c.silences.ensures.silences in
    let named : AreNames ids (length c.in_ok-outcomes.outcomes.silences) (map string_bytes c.as_slice.result.now) =
    λ i below.
    let within : i < c.len.result = omega (arith, below, ap (λ (w : World). length w.silences) world, count) in
    ap (λ names. name_at (map string_bytes names) i) c.as_slice.ensures.value
    ∙ c.in_ok-names.ensures.names i within
    ∙ ap (λ (files : Files). called (ids_of_file files.silences) i) c.files.view_is in
    let report = c.in_ok-report.ensures.report ids named
    ∙ ap (λ (w : World). alerts_report w.config (lines_of w ids (question_view c.args.question.now))) world in
    IfOk-weaker c.written.result _ _
    (λ text is. subst (λ r. IsWritten c.args.form r (string_bytes text)) report is)
    c.written.ensures.written
