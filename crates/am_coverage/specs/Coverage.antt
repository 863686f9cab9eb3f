-- Coverage: which routes and receivers the label sets of a space reach. Impossible label sets do
-- not count.
use Rattle.std.specs.Prelude.{ℕ, List, Option, Some, None, ◌==◌, Bool, is_some, if◌then◌else◌}
use Rattle.std.specs.List.{find, list_any}
use Rattle.am_universe.specs.LabelSet.{LabelMap, label_set_of}
use Rattle.am_universe.specs.Text.{same_text}
use Rattle.am_labels.specs.Space.{Space, all_choices}
use Rattle.am_config.specs.ConfigFile.{Configuration}
use Rattle.am_config.specs.Path.{leads_through}
use Rattle.am_eval.specs.Routing.{ends, receivers}
use Rattle.am_coverage.specs.declared.coverage.RouteCoverage.{RouteCoverage}
use Rattle.am_coverage.specs.declared.coverage.RouteCoverage.TheVariants as route_is

-- The first choice of the space, in declared order, whose label set passes a test. So the first
-- whose label set ends at a route; whose label set ends there or below it; and whose label set goes
-- to a receiver.
-- Source: own choice.
-- Example: if the label sets of the choices 0 0, 0 1 and 1 1 end at a route, and no others do, the
-- first is 0 0.
abbrev pub first_passing : Space → (LabelMap → Bool) → Option (List ℕ)
first_passing s test = find (λ choice. test (label_set_of s.labels choice)) (all_choices s)

abbrev pub first_end : Space → Configuration → List ℕ → Option (List ℕ)
first_end s c path = first_passing s (λ set. list_any (λ end. same_text end path) (ends set c))

abbrev pub first_entry : Space → Configuration → List ℕ → Option (List ℕ)
first_entry s c path = first_passing s (λ set. list_any (leads_through path) (ends set c))

abbrev pub first_receipt : Space → Configuration → ℕ → Option (List ℕ)
first_receipt s c receiver =
    first_passing s (λ set. list_any (λ other. other == receiver) (receivers set c))

-- What `dead` says of a route: it is live, with the first choice that ends there; or it is dead,
-- and entered or not.
-- Source: own choice.
-- Example: a route at which nothing ends, and below which something does, is `Entered`.
abbrev pub live_or : RouteCoverage → Option (List ℕ) → RouteCoverage
live_or dead None = dead
live_or dead (Some choice) = route_is.Live choice

abbrev pub dead_route : Bool → RouteCoverage
dead_route entered = if entered then route_is.Entered else route_is.NeverEntered

abbrev pub route_coverage : Space → Configuration → List ℕ → RouteCoverage
route_coverage s c path =
    live_or (dead_route (is_some (first_entry s c path))) (first_end s c path)
