-- The options of routes, and in which of them routes differ.
use Rattle.std.specs.Prelude.{ℕ, List, [], ◌∷◌, map, Bool, not, ◌==◌, codes, if◌then◌else◌}
use Rattle.std.specs.List.{filter, list_all}
use Rattle.std.specs.Borrow.{Bor}
use Rattle.serde_json.specs.Data.{Data}
use Rattle.am_config.specs.RouteOptions.{RouteOptions}
use Rattle.am_config.specs.ConfigFile.{options_of}
use Rattle.am_config.specs.RouteView.{route_view}
use Rattle.am_config.specs.declared.route.Route.{Route}
use Rattle.am_differences.specs.SameValue.{same_value}

-- The positions of the options, from 0; the option at a position, and its name.
-- Source: Alertmanager configuration reference 0.25, "<route>".
-- Example: the option at position 3 is `repeat_interval`.
abbrev pub option_positions : List ℕ
option_positions = 0 ∷ 1 ∷ 2 ∷ 3 ∷ 4 ∷ 5 ∷ []

abbrev pub option_at : ℕ → RouteOptions → Data
option_at k o =
    if k == 0 then o.group_by
    else (if k == 1 then o.group_wait
    else (if k == 2 then o.group_interval
    else (if k == 3 then o.repeat_interval
    else (if k == 4 then o.mute_time_intervals
    else o.active_time_intervals))))

abbrev pub option_name : ℕ → List ℕ
option_name k =
    if k == 0 then codes "group_by"
    else (if k == 1 then codes "group_wait"
    else (if k == 2 then codes "group_interval"
    else (if k == 3 then codes "repeat_interval"
    else (if k == 4 then codes "mute_time_intervals"
    else codes "active_time_intervals"))))

-- The option at a position has the same value in both.
abbrev pub same_option : ℕ → RouteOptions → RouteOptions → Bool
same_option k o p = same_value (option_at k o) (option_at k p)

-- Options are the same if each has the same value in both.
abbrev pub same_options : RouteOptions → RouteOptions → Bool
same_options o p = list_all (λ k. same_option k o p) option_positions

-- The option at a position is the same in both of each pair; and the positions of those that are
-- not.
-- Source: own choice.
-- Example: of one pair that differs in `group_wait`, and another that differs in nothing, it is the
-- position 1.
abbrev pub have_same_option : List (RouteOptions × RouteOptions) → ℕ → Bool
have_same_option pairs k = list_all (λ p. same_option k p.0 p.1) pairs

abbrev pub differing_options : List (RouteOptions × RouteOptions) → List ℕ
differing_options pairs = filter (λ k. not (have_same_option pairs k)) option_positions

-- The options of pairs of routes.
abbrev pub options_of_pairs : List (Bor Route × Bor Route) → List (RouteOptions × RouteOptions)
options_of_pairs pairs =
    map (λ p. (options_of (route_view p.0.now), options_of (route_view p.1.now))) pairs
