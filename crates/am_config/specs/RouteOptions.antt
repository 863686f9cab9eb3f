-- The options of routes: how alerts are grouped, and when they are sent. Routing ignores them.
-- (Alertmanager configuration reference 0.25, "<route>".)
use Rattle.std.specs.Prelude.{ℕ, List, Option, Some, None, option_and_then, unwrap_or, codes}
use Rattle.serde_json.specs.Data.{Data, null, array, no_items}
use Rattle.serde_json.specs.View.{view}
use Rattle.am_json.specs.Json.{field}
use Rattle.am_config.specs.declared.route_options as declared

-- The options of a route, each as its JSON value, which is `null` if it is not set. (Alertmanager
-- keeps them, with the receiver, as `RouteOpts`.)
pub record RouteOptions : Type 0 where
  pub group_by : Data
  pub group_wait : Data
  pub group_interval : Data
  pub repeat_interval : Data
  pub mute_time_intervals : Data
  pub active_time_intervals : Data

-- No option is set.
abbrev pub no_options : RouteOptions
no_options = record {
  group_by = null;
  group_wait = null;
  group_interval = null;
  repeat_interval = null;
  mute_time_intervals = null;
  active_time_intervals = null;
}

-- The value of an option, if a route with this JSON value sets it. An empty array sets none.
-- Source: Alertmanager 0.25, which takes `"group_by": []` for no `group_by`, so that a route with
-- it inherits that of its parent; and which takes an empty list of time intervals for none.
-- Example: `{"group_by": []}` and `{"group_by": null}` set no `group_by`.
abbrev pub unless_empty : Data → Option Data
unless_empty (array no_items) = None
unless_empty d = Some d

abbrev pub option_in : List ℕ → Data → Option Data
option_in key d = option_and_then unless_empty (field key d)

-- The same, or this value if the route does not set the option.
abbrev pub option_or : List ℕ → Data → Data → Data
option_or key d other = unwrap_or (option_in key d) other

-- The options of a route with this JSON value, whose parent has these options. An option that the
-- route does not set is that of the parent, except for the two lists of time intervals.
-- Source: Alertmanager configuration reference 0.25, "<route>": parameters are inherited from the
-- parent if not set; and Alertmanager's `dispatch/route.go`, which takes both lists from the route
-- itself.
-- Example: let the parent have `"group_wait": "1m"` and `"mute_time_intervals": ["a"]`. Then
-- `{"group_by": ["b"]}` has this `group_by` and the `group_wait` of the parent, and sets no
-- `mute_time_intervals`.
abbrev pub options_below : RouteOptions → Data → RouteOptions
options_below above d = record {
  group_by = option_or (codes "group_by") d above.group_by;
  group_wait = option_or (codes "group_wait") d above.group_wait;
  group_interval = option_or (codes "group_interval") d above.group_interval;
  repeat_interval = option_or (codes "repeat_interval") d above.repeat_interval;
  mute_time_intervals = option_or (codes "mute_time_intervals") d null;
  active_time_intervals = option_or (codes "active_time_intervals") d null;
}

-- The options that a Rust `RouteOptions` stands for.
abbrev pub options_view : declared.RouteOptions.RouteOptions → RouteOptions
options_view o = record {
  group_by = view o.group_by.value;
  group_wait = view o.group_wait.value;
  group_interval = view o.group_interval.value;
  repeat_interval = view o.repeat_interval.value;
  mute_time_intervals = view o.mute_time_intervals.value;
  active_time_intervals = view o.active_time_intervals.value;
}
