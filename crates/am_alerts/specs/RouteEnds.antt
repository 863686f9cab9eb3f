-- The alerts that end at routes, as they are stored.
use Rattle.std.specs.Prelude.{◌≡◌, ◌++◌, ℕ, List, [], Bool, Option, Some, None, slice_get}
use Rattle.std.specs.Prelude.{if◌then◌else◌}
use Rattle.std.specs.List.{filter_map}
use Rattle.am_universe.specs.LabelSet.{LabelMap}
use Rattle.am_alerts.specs.declared.route_ends.RouteEnds.{RouteEnds}
use Rattle.am_alerts.specs.AlertLabels.{flag}

-- The path of a route, if the alert at a position ends there; and all such paths.
abbrev pub path_if_end : ℕ → RouteEnds → Option (List ℕ)
path_if_end i row = if flag row.alerts.items i then Some row.path else None

abbrev pub ends_of : List RouteEnds → ℕ → List (List ℕ)
ends_of rows i = filter_map (path_if_end i) rows

-- The ends of each alert depend on its labels.
abbrev pub AreEnds : List LabelMap → (LabelMap → List (List ℕ)) → List RouteEnds → Type 0
AreEnds alerts list rows =
    (i : ℕ) (s : LabelMap) → slice_get alerts i ≡ Some s → ends_of rows i ≡ list s

-- Behind the ends of each of some alerts, there are more.
abbrev pub AddsEnds : List LabelMap → List Bool → (LabelMap → List (List ℕ)) → List RouteEnds
    → List RouteEnds → Type 0
AddsEnds alerts among more before after =
    (i : ℕ) (s : LabelMap) → slice_get alerts i ≡ Some s
    → ends_of after i ≡ ends_of before i ++ (if flag among i then more s else [])
