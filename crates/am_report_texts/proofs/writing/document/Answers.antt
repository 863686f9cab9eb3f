use Rattle.std.proofs.Common.{◌++◌, ◌∙◌, ap, codes, arith}
use Rattle.am_report_texts.specs.LineView.{report_view}
use Rattle.am_report_texts.proofs.PlainData.{plain_report}
use Rattle.am_report_texts.proofs.writing.document.Goals as goal

pub returns : goal.returns
returns c =
    let plain = plain_report (report_view c.args.report.now) in
    let is = c.in_ok-json_of.ensures in
    let text = (rw is at c.in_ok-text.ensures.text) plain.no_float in
    let back = (rw is at c.in_ok-text.ensures.reads_back) (omega (arith, plain.shallow)) in
    (c.in_ok-push_str.ensures.bytes ∙ ap (λ t. t ++ codes "\n") text, rw text at back)
