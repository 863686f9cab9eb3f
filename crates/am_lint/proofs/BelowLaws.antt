-- No alert enters a route below one that no alert enters.
use Rattle.std.proofs.Common.{ℕ, List}
use Rattle.std.specs.Prelude.{IsTrue}
use Rattle.am_universe.specs.LabelSet.{LabelMap}
use Rattle.am_config.specs.ConfigFile.{Configuration}
use Rattle.am_config.specs.Path.{leads_through}
use Rattle.am_search.proofs.PrefixOrder.{begins_through}
use Rattle.am_eval.specs.Reaching.{IsNeverEntered}

pub none_enters_below : (Occurs : LabelMap → Type 0) (c : Configuration) (path below : List ℕ)
    → IsTrue (leads_through path below) → IsNeverEntered Occurs c path
    → IsNeverEntered Occurs c below
none_enters_below Occurs c path below leads never set occurs entered =
    never set occurs (entered.0, entered.1, begins_through path below entered.0 leads entered.2)
