-- Which alerts end at each route that is asked about.
use Rattle.std.specs.Prelude.{◌≡◌, ◌==◌, ℕ, List, Bool, true, Option, Some, None, IsTrue, Contains}
use Rattle.std.specs.List.{AllZip, filter, list_any}
use Rattle.am_universe.specs.LabelSet.{LabelMap}
use Rattle.am_config.specs.ConfigFile.{Configuration, RouteTree, receiver_of}
use Rattle.am_config.specs.RoutePaths.{all_routes}
use Rattle.am_route_alerts.specs.EndMatchers.{EndMatchers, meets, IsEnds}

-- A route by its path, the position of its receiver, and which alerts end there, if any do.
pub record RouteAlerts : Type 0 where
  pub path : List ℕ
  pub receiver : ℕ
  pub ends : Option EndMatchers

abbrev pub IsRouteAlerts :
    (LabelMap → Type 0) → Configuration → List ℕ × RouteTree → RouteAlerts → Type 0
IsRouteAlerts Occurs c route found =
    (found.path ≡ route.0) × (found.receiver ≡ receiver_of route.1)
    × IsEnds Occurs c route.0 found.ends

-- Whether a receiver is asked about: it is one of those that are given. `None` stands for all.
abbrev pub is_asked : Option (List ℕ) → ℕ → Bool
is_asked None receiver = true
is_asked (Some receivers) receiver = list_any (λ other. other == receiver) receivers

-- What is found is so for each route whose receiver is asked about, in preorder, and for no other
-- route.
-- Source: own choice.
-- Example: if only the receiver at position 1 is asked about, these are the routes that have it.
abbrev pub are_asked : Option (List ℕ) → Configuration → List (List ℕ × RouteTree)
are_asked receivers c = filter (λ route. is_asked receivers (receiver_of route.1)) (all_routes c)

abbrev pub AreRouteAlerts :
    (LabelMap → Type 0) → Configuration → Option (List ℕ) → List RouteAlerts → Type 0
AreRouteAlerts Occurs c receivers found =
    AllZip (IsRouteAlerts Occurs c) (are_asked receivers c) found

-- An alert meets the line of a route with a receiver; and it meets one of some lines of this
-- receiver.
abbrev pub MeetsLine : ℕ → LabelMap → RouteAlerts → Type 0
MeetsLine receiver alert route =
    (e : EndMatchers) × (route.ends ≡ Some e) × (route.receiver ≡ receiver)
    × IsTrue (meets alert e)

abbrev pub MeetsOneOf : ℕ → List RouteAlerts → LabelMap → Type 0
MeetsOneOf receiver found alert =
    (route : RouteAlerts) × Contains found route × MeetsLine receiver alert route
