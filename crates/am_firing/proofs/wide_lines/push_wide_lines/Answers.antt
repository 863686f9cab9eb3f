-- One more rule, and its line.
use Rattle.std.proofs.Common.{◌≡◌, ◌++◌, Some, length, map, ap, sym, ◌∙◌, arith}
use Rattle.std.specs.Prelude.{slice_get}
use Rattle.am_config.specs.ConfigFile.{Configuration}
use Rattle.am_report_texts.specs.LineView.{line_view}
use Rattle.am_report_texts.proofs.PieceSteps.{item_here}
use Rattle.am_firing.specs.FiringLines.{wide_lines}
use Rattle.am_firing.proofs.Numbered.{one_more, all_done}
use Rattle.am_firing.proofs.wide_lines.push_wide_lines.Goals as goal

pub loop-i-preserved : goal.loop-i-preserved
loop-i-preserved c =
    let w = c.args.world.now in
    let i = c.loop-i.i in
    let rule = c.rule-item.result in
    let at : slice_get w.config.rules i ≡ Some rule =
    ap (λ rs. slice_get rs i)
    (sym (c.rules-rule-items.ensures.rules ∙ ap (λ (k : Configuration). k.rules) c.config.ensures.config))
    ∙ item_here c.rules-rule-items.result.now i rule c.loop-i-test.true c.rule-item.is in
    one_more (wide_lines w.alerts) w.config.rules i rule _ _ _ at c.loop-i.invariant
    (c.in_ok-push_wide_line.ensures
    ∙ ap (λ alerts. map line_view c.loop-i.lines.items ++ wide_lines alerts (i, rule)) c.alerts.ensures.alerts)

pub returns : goal.returns
returns c =
    let w = c.args.world.now in
    let rules = c.rules-rule-items.ensures.rules ∙ ap (λ (k : Configuration). k.rules) c.config.ensures.config in
    all_done (wide_lines w.alerts) w.config.rules c.loop-i.i _ _
    (omega (arith, ap length rules, c.loop-i-test.false)) c.loop-i.invariant
