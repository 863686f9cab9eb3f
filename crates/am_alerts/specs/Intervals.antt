-- The time intervals on which it depends whether an alert is muted. They are not evaluated.
use Rattle.std.specs.Prelude.{ℕ, List, ◌++◌, Some}
use Rattle.std.specs.List.{filter_map, flat_map}
use Rattle.serde_json.specs.Data.{Data}
use Rattle.serde_json.specs.Find.{as_str}
use Rattle.am_universe.specs.LabelSet.{LabelMap}
use Rattle.am_json.specs.Json.{items_in_field}
use Rattle.am_config.specs.ConfigFile.{Configuration, RouteTree, options_of}
use Rattle.am_config.specs.Path.{route_at}
use Rattle.am_eval.specs.Routing.{ends}
use Rattle.am_report_texts.specs.EachOnce.{each_once}

-- The texts in an array. Any other value has none.
abbrev pub texts_in : Data → List (List ℕ)
texts_in d = filter_map as_str (items_in_field (Some d))

-- The names in `mute_time_intervals` and `active_time_intervals` of a route, which it does not
-- inherit.
-- Source: Alertmanager configuration reference 0.25, "<route>".
-- Example: those of `{"active_time_intervals": ["b"], "mute_time_intervals": ["a"]}` are `a` and
-- `b`.
abbrev pub route_intervals : RouteTree → List (List ℕ)
route_intervals t =
    texts_in (options_of t).mute_time_intervals ++ texts_in (options_of t).active_time_intervals

-- The time intervals of the routes at the ends of an alert, each once.
-- Source: Alertmanager configuration reference 0.25, "<route>": a route mutes its notifications
-- during `mute_time_intervals`, and outside of `active_time_intervals`.
-- Example: if an alert ends at two routes, and both have `"mute_time_intervals": ["offhours"]`, it
-- is `offhours`.
abbrev pub intervals_of : Configuration → List (List ℕ) → List (List ℕ)
intervals_of c paths = each_once (flat_map route_intervals (filter_map (route_at c.root) paths))

abbrev pub intervals : LabelMap → Configuration → List (List ℕ)
intervals s c = intervals_of c (ends s c)
