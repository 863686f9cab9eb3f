use Rattle.std.proofs.Common.{arith}
use Rattle.std.proofs.lemmas.Simd.{map-map}
use Rattle.am_report_texts.specs.LineData.{line_data}
use Rattle.am_report_texts.specs.LineView.{line_view}
use Rattle.am_report_texts.proofs.PieceSteps.{member_steps}
use Rattle.am_report_texts.proofs.lines_json.json_of.Goals as goal

pub returns : goal.returns
returns c =
    grind (arith, member_steps, map-map line_data line_view c.args.report.now.lines.items)
