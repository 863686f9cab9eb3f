-- One more rule, and its lines.
use Rattle.std.proofs.Common.{◌<◌, length, arith}
use Rattle.am_report_texts.proofs.PieceSteps.{item_here}
use Rattle.am_idle.specs.RuleLines.{rule_lines, HasPositionsIfAny}
use Rattle.am_reports.proofs.EachLine.{one_said, all_said, zip_at}
use Rattle.am_reports.proofs.listed_findings.push_rules.Goals as goal

pub push_rule_line-requires : goal.push_rule_line-requires
push_rule_line-requires c =
    let rules = c.args.rules.now in
    let found = c.args.found.now in
    let i = c.loop-i.i in
    let within : i < length found = omega arith in
    zip_at HasPositionsIfAny rules found i c.index-rules-i.result c.index-found-i.result
    c.requires.each (item_here rules i c.index-rules-i.result c.loop-i-test.true c.index-rules-i.is)
    (item_here found i c.index-found-i.result within c.index-found-i.is)

pub loop-i-preserved : goal.loop-i-preserved
loop-i-preserved c =
    let rules = c.args.rules.now in
    let found = c.args.found.now in
    let i = c.loop-i.i in
    let within : i < length found = omega arith in
    one_said rule_lines i rules found c.index-rules-i.result c.index-found-i.result _ _ _
    (item_here rules i c.index-rules-i.result c.loop-i-test.true c.index-rules-i.is)
    (item_here found i c.index-found-i.result within c.index-found-i.is) c.loop-i.invariant
    c.in_ok-push_rule_line.ensures.lines

pub returns : goal.returns
returns c = record {
  lines = all_said rule_lines c.loop-i.i c.args.rules.now c.args.found.now _ _ (omega arith)
      c.loop-i.invariant;
}
