use Rattle.std.proofs.Common.{refl}
use Rattle.am_universe.specs.LabelSet.{label_set_of}
use Rattle.am_asked.specs.Asked.{world_matchers}
use Rattle.am_every_alert.proofs.SpaceAlerts.{alert_choice}
use Rattle.am_every_alert.proofs.TreatedAlike.{treated_alike}
use Rattle.am_every_alert.proofs.laws.every_alert_is_treated_as_a_choice.Goals as goal

pub returns : goal.returns
returns c = record {
  alike = λ a u w s h complete alert.
      let r = alert_choice a u (world_matchers w) s h complete alert in
      (r.0, r.1, treated_alike (label_set_of u r.0) s w r.2);
  any_instant = λ w instant. refl;
}
