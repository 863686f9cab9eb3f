use Rattle.std.proofs.Common.{◌≡◌, ◌≤◌, [], ◌∷◌, inl, inr, false, map, length, ap, sym, ◌∙◌, arith, append_assoc}
use Rattle.std.proofs.Common.{append-nil}
use Rattle.std.proofs.lemmas.List.{map-append, drop_all, get_or_default}
use Rattle.std.proofs.lemmas.Option.{slice_get_cases}
use Rattle.am_universe.proofs.Members.{left_at}
use Rattle.am_eval.specs.World.{World}
use Rattle.am_eval.specs.Question.{satisfies}
use Rattle.am_eval.specs.QuestionView.{question_view}
use Rattle.am_report_texts.specs.LineView.{line_view, pieces_view}
use Rattle.am_alerts.specs.AlertLines.{alert_line, line_of}
use Rattle.am_alerts.proofs.alert_lines.alerts_report.Goals as goal
use Rattle.am_alerts.proofs.alert_lines.alerts_report.Goals.{then-index+in_ok-alert_line+in_ok-push, else-index}

-- what is left is the alert at the position and the alerts after it
pub loop-position-preserved : goal.loop-position-preserved
loop-position-preserved c = λ ids named.
    let w = c.args.outcomes.now in
    let i = c.loop-position.position in
    let truths = c.in_ok-truths.truths.items in
    elim (slice_get_cases w.alerts i).1 [
      | inl there ↦
          let s = there.0 in
          let here = there.2 in
          let truth : c.index.result.now ≡ satisfies w (question_view c.args.question.now) s =
          c.index.ensures
          ∙ get_or_default truths i c.index.result.now false
          (omega (arith, there.1, c.in_ok-truths.ensures.truths.0))
          ∙ c.in_ok-truths.ensures.truths.1 i s here in
          elim c.if-index.branch [
            | then-index+in_ok-alert_line+in_ok-push b ↦
                let passes = sym truth ∙ b.if-index.true in
                rw (b.lines-is, b.in_ok-push.ensures.items, map-append, b.in_ok-alert_line.ensures ids s named here)
                (append_assoc (map line_view c.loop-position.lines.items)
                (alert_line w.config (line_of w ids (i, s)) ∷ []) _
                ∙ (rw (left_at w.alerts i s here, passes) at c.loop-position.invariant ids named))
            | else-index b ↦
                let fails = sym truth ∙ b.if-index.false in
                rw b.lines-is (rw (left_at w.alerts i s here, fails) at c.loop-position.invariant ids named)
          ]
      | inr past ↦ absurd (omega (
        arith,
        past.0,
        c.loop-position-test.true,
        c.len-position-end.ensures.count,
        ap length c.alerts.ensures.alerts,
        ap (λ (w : World). length w.alerts) c.world.ensures.world,
      ))
    ]

pub returns : goal.returns
returns c =
    let w = c.args.outcomes.now in
    let i = c.loop-position.position in
    let all : length w.alerts ≤ i =
    omega (
      arith,
      c.loop-position-test.false,
      c.len-position-end.ensures.count,
      ap length c.alerts.ensures.alerts,
      ap (λ (w : World). length w.alerts) c.world.ensures.world,
    ) in
    record {
      report = λ ids named.
          let lines = rw (drop_all i w.alerts all, append-nil) at c.loop-position.invariant ids named in
          (λ j. record { lines = lines j; last = pieces_view (c.in_ok-vec.ensures.items j) });
    }
