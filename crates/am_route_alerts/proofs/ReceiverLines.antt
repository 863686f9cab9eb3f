-- An alert goes to a receiver where it meets one of the lines of this receiver.
use Rattle.std.proofs.Common.{◌≡◌, ◌↔◌, ℕ, List, Bool, Option, Some, None, refl, sym, ap}
use Rattle.std.proofs.Common.{subst, ◌∙◌, ◌<◌, map, length}
use Rattle.std.specs.Prelude.{IsTrue}
use Rattle.std.specs.List.{AllByRecursion}
use Rattle.am_universe.specs.LabelSet.{LabelMap}
use Rattle.am_universe.proofs.ListLemmas.{IsIn-from_Contains, Contains-from_IsIn, IsIn-map}
use Rattle.am_universe.proofs.ListLemmas.{AllByRecursion-each}
use Rattle.am_labels.proofs.Passing.{kept_from_passes, passes_from_kept}
use Rattle.am_config.specs.ConfigFile.{Configuration, RouteTree, receiver_of, IsConfig}
use Rattle.am_config.specs.RoutePaths.{all_routes}
use Rattle.am_eval.specs.Reaching.{EndsAt, GoesTo}
use Rattle.am_eval.proofs.AbsentParts.{receiver_below}
use Rattle.am_eval.proofs.SimpleParts.{end_of_receiver, receiver_of_end}
use Rattle.am_lint.proofs.TableLemmas.{zip_left, zip_right, stands_at, listed}
use Rattle.am_route_alerts.specs.EndMatchers.{EndMatchers, meets, IsEnds, SaysWhichEnd}
use Rattle.am_route_alerts.specs.RouteAlerts.{RouteAlerts, IsRouteAlerts, is_asked, are_asked}
use Rattle.am_route_alerts.specs.RouteAlerts.{AreRouteAlerts, MeetsOneOf}
use Rattle.am_route_alerts.specs.declared.found.RouteAlerts.{RouteAlerts as RouteFound}
use Rattle.am_route_alerts.specs.FoundView.{route_alerts_view}

module _ (Occurs : LabelMap → Type 0) (c : Configuration) (alert : LabelMap)
    (is : Occurs alert) where
  -- an alert that ends at a route meets its line
  meets_line : (path : List ℕ) (found : Option EndMatchers) → IsEnds Occurs c path found
      → EndsAt c path alert → (e : EndMatchers) × (found ≡ Some e) × IsTrue (meets alert e)
  meets_line path None none ends = absurd (none alert is ends)
  meets_line path (Some e) says ends = (e, refl, (says.exactly alert is).0 ends)

  -- and ends there if it does
  ends_by_line : (path : List ℕ) (found : Option EndMatchers) (e : EndMatchers)
      → IsEnds Occurs c path found → found ≡ Some e → IsTrue (meets alert e) → EndsAt c path alert
  ends_by_line path found e line at met =
      let says : SaysWhichEnd Occurs c path e = subst (IsEnds Occurs c path) at line in
      (says.exactly alert is).1 met

  module _ (receivers : Option (List ℕ)) (found : List RouteAlerts) (receiver : ℕ)
      (are : AreRouteAlerts Occurs c receivers found) (asked : IsTrue (is_asked receivers receiver))
    where
      abbrev asks : List ℕ × RouteTree → Bool
      asks route = is_asked receivers (receiver_of route.1)

      meets_one : GoesTo c receiver alert → MeetsOneOf receiver found alert
      meets_one goes =
          let r = end_of_receiver alert c receiver goes in
          let there = kept_from_passes asks (all_routes c) (r.0, r.1) (listed c r.0 r.1 r.3)
          (ap (is_asked receivers) r.4 ∙ asked) in
          let line = zip_left (IsRouteAlerts Occurs c) (are_asked receivers c) found (r.0, r.1) are
          there in
          let met = meets_line r.0 line.0.ends line.2.2 r.2 in (
            line.0,
            Contains-from_IsIn found line.0 line.1,
            (met.0, met.1, line.2.1 ∙ r.4, met.2),
          )

      goes_there : MeetsOneOf receiver found alert → GoesTo c receiver alert
      goes_there (line, among, (e, at, same, met)) =
          let r = zip_right (IsRouteAlerts Occurs c) (are_asked receivers c) found line are
          (IsIn-from_Contains found line among) in
          let there = passes_from_kept asks (all_routes c) r.0 r.1 in
          let ends = ends_by_line r.0.0 line.ends e r.2.2 at met in
          subst (λ n. GoesTo c n alert) (sym r.2.1 ∙ same)
          (receiver_of_end alert c r.0.0 r.0.1 ends (stands_at c r.0 there.0))

      pub goes_by_lines : GoesTo c receiver alert ↔ MeetsOneOf receiver found alert
      goes_by_lines = (meets_one, goes_there)

-- ---- The receivers of the lines are declared.

pub receivers_declared : (Occurs : LabelMap → Type 0) (c : Configuration)
    (receivers : Option (List ℕ)) (found : List RouteFound) → IsConfig c
    → AreRouteAlerts Occurs c receivers (map route_alerts_view found)
    → AllByRecursion (λ route. route.receiver < length c.receivers) found
receivers_declared Occurs c receivers found sound are =
    AllByRecursion-each (λ route. route.receiver < length c.receivers) found (λ route i.
    let r = zip_right (IsRouteAlerts Occurs c) (are_asked receivers c) (map route_alerts_view found)
    (route_alerts_view route) are (IsIn-map route_alerts_view found route i) in
    let there = passes_from_kept (λ (x : List ℕ × RouteTree). is_asked receivers (receiver_of x.1))
    (all_routes c) r.0 r.1 in
    subst (λ n. n < length c.receivers) (sym r.2.1)
    (receiver_below (length c.receivers) r.0.0 c.root r.0.1 sound.receivers_declared
    (stands_at c r.0 there.0)))
