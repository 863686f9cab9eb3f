-- What alerts reach is what they are defined to reach, and no alert enters a route below one that
-- none enters.
use Rattle.std.proofs.Common.{◌↔◌, ℕ, List, Contains}
use Rattle.std.specs.Prelude.{IsTrue, IsFalse}
use Rattle.std.proofs.lemmas.Bool.{false_from_ne_true, both_ways}
use Rattle.am_universe.specs.LabelSet.{LabelMap}
use Rattle.am_config.specs.ConfigFile.{Configuration}
use Rattle.am_config.specs.Path.{leads_through}
use Rattle.am_eval.specs.Reaching.{Enters, GoesTo, IsNeverEntered}
use Rattle.am_eval.specs.Routing.{ends, receivers}
use Rattle.am_eval.specs.World.{World}
use Rattle.am_eval.proofs.ListTests.{some_passes, passes_among}
use Rattle.am_eval.proofs.SimpleParts.{receipt_from_test, test_from_receipt}
use Rattle.am_lint.proofs.BelowLaws.{none_enters_below}
use Rattle.am_firing.specs.Unreached.{enters, goes_to, is_entered}

pub enters_exactly : (c : Configuration) (path : List ℕ) (alert : LabelMap)
    → IsTrue (enters c path alert) ↔ Enters c path alert
enters_exactly c path alert = (
  some_passes (leads_through path) (ends alert c),
  λ h. passes_among (leads_through path) (ends alert c) h.0 h.1 h.2,
)

pub goes_exactly : (c : Configuration) (receiver : ℕ) (alert : LabelMap)
    → IsTrue (goes_to c receiver alert) ↔ GoesTo c receiver alert
goes_exactly c receiver alert = (
  receipt_from_test receiver (receivers alert c),
  test_from_receipt receiver (receivers alert c),
)

never_entered : (w : World) (path : List ℕ) → IsFalse (is_entered w path)
    → IsNeverEntered (Contains w.alerts) w.config path
never_entered w path none set occurs entered =
    both_ways (is_entered w path)
    none
    (passes_among (enters w.config path) w.alerts set occurs ((enters_exactly w.config path set).1 entered))

pub none_below : (w : World) (path below : List ℕ) → IsTrue (leads_through path below)
    → IsFalse (is_entered w path) → IsFalse (is_entered w below)
none_below w path below leads none =
    false_from_ne_true (is_entered w below) (λ some.
    let r = some_passes (enters w.config below) w.alerts some in
    none_enters_below (Contains w.alerts) w.config path below leads (never_entered w path none)
    r.0 r.1 ((enters_exactly w.config below r.0).0 r.2))
