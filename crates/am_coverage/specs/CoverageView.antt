-- How contracts see what was found: of a route and of a receiver, and that it can be shown.
use Rattle.std.specs.Prelude.{ℕ, List, ⊤, ◌<◌, length, IfSome}
use Rattle.am_universe.specs.Choice.{IsWhole}
use Rattle.am_universe.specs.Universe.{Label, sizes}
use Rattle.am_labels.specs.Space.{Space}
use Rattle.am_config.specs.ConfigFile.{Configuration}
use Rattle.am_coverage.specs.Coverage.{route_coverage, first_receipt}
use Rattle.am_coverage.specs.declared.coverage.RouteCoverage.{RouteCoverage}
use Rattle.am_coverage.specs.declared.coverage.RouteCoverage.TheVariants as route_is
use Rattle.am_coverage.specs.declared.receiver_coverage.ReceiverFound.{ReceiverFound}
use Rattle.am_coverage.specs.declared.route_coverage.RouteFound.{RouteFound}

-- A route, by its path, with its coverage; and a receiver, by its position, with the first choice
-- that goes to it.
abbrev pub route_found : Space → Configuration → List ℕ → RouteFound
route_found s c path = record { path = path; coverage = route_coverage s c path }

abbrev pub receiver_found : Space → Configuration → ℕ → ReceiverFound
receiver_found s c receiver = record { receiver = receiver; choice = first_receipt s c receiver }

-- The choice that shows that a route is live is whole. So is the choice that shows that a receiver
-- is live, and the receiver is declared.
abbrev pub IsShown : List ℕ → RouteCoverage → Type 0
IsShown sizes (route_is.Live choice) = IsWhole sizes choice
IsShown sizes route_is.Entered = ⊤
IsShown sizes route_is.NeverEntered = ⊤

abbrev pub IsShownRoute : List ℕ → RouteFound → Type 0
IsShownRoute sizes found = IsShown sizes found.coverage

abbrev pub IsShownReceiver : List Label → Configuration → ReceiverFound → Type 0
IsShownReceiver u c found =
    (found.receiver < length c.receivers) × IfSome found.choice (IsWhole (sizes u))
