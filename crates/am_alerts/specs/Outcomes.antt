-- The outcomes of alerts in a world, as they are stored.
use Rattle.std.specs.Prelude.{◌≡◌, ℕ, List}
use Rattle.std.specs.Global.{Vec}
use Rattle.am_universe.specs.LabelSet.{LabelMap}
use Rattle.am_eval.specs.World.{World}
use Rattle.am_eval.specs.Routing.{ends, receivers}
use Rattle.am_eval.specs.Silencing.{silencers}
use Rattle.am_eval.specs.Inhibition.{inhibitors}
use Rattle.am_alerts.specs.declared.outcomes.Outcome.{Outcome}
use Rattle.am_alerts.specs.declared.route_ends.RouteEnds.{RouteEnds}
use Rattle.am_alerts.specs.AlertLists.{AreLists}
use Rattle.am_alerts.specs.RouteEnds.{AreEnds, ends_of}

-- This is the outcome of an alert with these labels.
pub record HasOutcome (w : World) (s : LabelMap) (outcome : Outcome) : Type 0 where
  pub ends : ends_of outcome.rows.now outcome.alert ≡ ends s w.config
  pub receivers : outcome.receivers.now ≡ receivers s w.config
  pub silencers : outcome.silencers.now ≡ silencers w s
  pub inhibitors : outcome.inhibitors.now ≡ inhibitors w s

-- These are the labels of the alerts of a world, and the parts of the outcome of each alert.
pub record AreOutcomes (w : World) (labels : List LabelMap) (rows : List RouteEnds)
    (receivers_found silencers_found : List (Vec ℕ)) (inhibitors_found : List (Vec (ℕ × ℕ)))
    : Type 0 where
  pub labelled : labels ≡ w.alerts
  pub all_ends : AreEnds w.alerts (λ s. ends s w.config) rows
  pub all_receivers : AreLists w.alerts (λ s. receivers s w.config) receivers_found
  pub all_silencers : AreLists w.alerts (silencers w) silencers_found
  pub all_inhibitors : AreLists w.alerts (inhibitors w) inhibitors_found
