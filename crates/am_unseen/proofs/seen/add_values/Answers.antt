use Rattle.std.proofs.Common.{◌∙◌, ap, fold, take}
use Rattle.am_complete.proofs.Pushed.{one_longer}
use Rattle.am_report_texts.specs.EachOnce.{with_text}
use Rattle.am_unseen.specs.Unseen.{all_values}
use Rattle.am_unseen.specs.Search.{texts_of}
use Rattle.am_unseen.proofs.SeenValues.{value_more}
use Rattle.am_unseen.proofs.seen.add_values.Goals as goal

pub loop-i-preserved : goal.loop-i-preserved
loop-i-preserved c =
    let alerts = c.args.alerts.now in
    let name = c.args.name.now in
    let start = texts_of c.args.values.now in
    value_more start (texts_of c.loop-i.values) (texts_of c.add_value.new.values)
    (take c.loop-i.i alerts) c.get.result.now name c.in_ok-add_value.ensures c.loop-i.invariant
    ∙ ap (λ sets. fold with_text start (all_values sets name))
    (one_longer alerts c.loop-i.i c.get.result.now c.get.ensures.alert)
