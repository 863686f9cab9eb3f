use Rattle.std.proofs.Common.{◌∙◌, ap, take}
use Rattle.std.proofs.Common.{fold}
use Rattle.std.specs.FinMap.{keys}
use Rattle.std.specs.List.{flat_map}
use Rattle.am_complete.proofs.Pushed.{one_longer}
use Rattle.am_report_texts.specs.EachOnce.{with_text}
use Rattle.am_unseen.specs.Search.{texts_of}
use Rattle.am_unseen.proofs.SeenValues.{names_more}
use Rattle.am_unseen.proofs.seen.add_all_names.Goals as goal

pub loop-i-preserved : goal.loop-i-preserved
loop-i-preserved c =
    let alerts = c.args.alerts.now in
    let start = texts_of c.args.names.now in
    names_more start (texts_of c.loop-i.names) (texts_of c.add_names.new.names)
    (take c.loop-i.i alerts) c.get.result.now c.in_ok-add_names.ensures c.loop-i.invariant
    ∙ ap (λ sets. fold with_text start (flat_map keys sets))
    (one_longer alerts c.loop-i.i c.get.result.now c.get.ensures.alert)
