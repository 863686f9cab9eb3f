-- One more rule, and its lines.
use Rattle.std.proofs.Common.{◌≡◌, ◌<◌, Some, false, get_or, length, sym, ap, ◌∙◌, arith}
use Rattle.std.specs.Prelude.{slice_get}
use Rattle.std.specs.List.{zip}
use Rattle.std.proofs.lemmas.Option.{slice_get-get_or}
use Rattle.std.proofs.lemmas.Slice.Zip.{length-zip}
use Rattle.am_config.specs.ConfigView.{config_view}
use Rattle.am_report_texts.proofs.PieceSteps.{item_here}
use Rattle.am_firing.specs.FiringLines.{rule_lines}
use Rattle.am_firing.proofs.Numbered.{zipped_at, one_more, all_done}
use Rattle.am_firing.proofs.unreached_lines.push_rule_lines.Goals as goal

pub loop-i-preserved : goal.loop-i-preserved
loop-i-preserved c =
    let rules = (config_view c.args.config.now).rules in
    let sides = c.args.sides.now in
    let findings = c.args.findings.now in
    let i = c.loop-i.i in
    let rule = c.index-rules-i.result in
    let side = get_or sides i (false, false) in
    let finding = c.index-findings-i.result in
    let same : c.rules-rules.result.now ≡ rules = c.rules-rules.ensures.rules in
    let inside : i < length sides =
    omega (arith, c.requires.findings, c.requires.sides, c.loop-i-test.true) in
    let within : i < length c.rules-rules.result.now =
    omega (arith, ap length same, c.requires.findings, c.loop-i-test.true) in
    let at : slice_get rules i ≡ Some rule =
    ap (λ rs. slice_get rs i) (sym same)
    ∙ item_here c.rules-rules.result.now i rule within c.index-rules-i.is in
    one_more (rule_lines c.args.whose) (zip rules (zip sides findings)) i (rule, (side, finding)) _ _ _
    (zipped_at rules (zip sides findings) i rule (side, finding) at
    (zipped_at sides findings i side finding (slice_get-get_or sides i (false, false) inside)
    (item_here findings i finding c.loop-i-test.true c.index-findings-i.is)))
    c.loop-i.invariant c.in_ok-push_rule.ensures

pub returns : goal.returns
returns c =
    let rules = (config_view c.args.config.now).rules in
    let sides = c.args.sides.now in
    let findings = c.args.findings.now in
    all_done (rule_lines c.args.whose) (zip rules (zip sides findings)) c.loop-i.i _ _
    (omega (
      arith,
      length-zip rules (zip sides findings),
      length-zip sides findings,
      c.requires.findings,
      c.requires.sides,
      c.loop-i-test.false,
    ))
    c.loop-i.invariant
