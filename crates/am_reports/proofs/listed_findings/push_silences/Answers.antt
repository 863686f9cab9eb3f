-- One more silence, and its lines.
use Rattle.am_report_texts.proofs.PieceSteps.{item_here}
use Rattle.am_idle.specs.SilenceLines.{silence_lines}
use Rattle.am_reports.proofs.EachLine.{one_said, all_said}
use Rattle.am_reports.proofs.listed_findings.push_silences.Goals as goal

pub loop-i-preserved : goal.loop-i-preserved
loop-i-preserved c =
    let found = c.args.found.now in
    let i = c.loop-i.i in
    one_said silence_lines i c.args.silences.now found c.get.result.now c.index-found-i.result _ _ _
    c.get.ensures.silence
    (item_here found i c.index-found-i.result c.loop-i-test.true c.index-found-i.is)
    c.loop-i.invariant c.in_ok-push_silence_line.ensures.lines

pub returns : goal.returns
returns c = record {
  lines = all_said silence_lines c.loop-i.i c.args.silences.now c.args.found.now _ _
      c.loop-i-test.false c.loop-i.invariant;
}
