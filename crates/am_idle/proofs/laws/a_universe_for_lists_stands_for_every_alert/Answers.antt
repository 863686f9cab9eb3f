use Rattle.std.proofs.Common.{refl}
use Rattle.am_universe.specs.LabelSet.{label_set_of}
use Rattle.am_every_alert.specs.Deciding.{space_of}
use Rattle.am_every_alert.proofs.SpaceAlerts.{choice_of_alert, alert_of_set}
use Rattle.am_idle.specs.Lists.{listed_matchers}
use Rattle.am_idle.proofs.laws.a_universe_for_lists_stands_for_every_alert.Goals as goal

pub returns : goal.returns
returns c = record {
  choice = λ a s lists u alert h is.
      choice_of_alert a (space_of s.impossible u) (listed_matchers lists) alert h.universe
      h.complete is;
  alert = λ a s lists u choice h is.
      alert_of_set a (space_of s.impossible u) (listed_matchers lists) h (label_set_of u choice)
      (choice, is, refl);
}
