use Rattle.std.proofs.Common.{ap, ◌∙◌, length}
use Rattle.am_eval.specs.Silencing.{silencers}
use Rattle.am_alerts.proofs.AlertListLemmas.{all_lists}
use Rattle.am_alerts.proofs.alert_hiding.silencers_of_alerts.Goals as goal

pub returns : goal.returns
returns c =
    all_lists c.args.labels.now (silencers c.args.world.now) c.in_ok-found.found
    c.add_silencers.new.found c.len.result c.in_ok-found.ensures
    (c.len.ensures.count ∙ ap length c.alerts.ensures.alerts)
    (c.add_silencers.auto.found ∙ ap length c.deref_mut.ensures.value)
    (rw c.deref_mut.ensures.value at c.in_ok-add_silencers.ensures.added)
