-- The way of an alert: which of the routes and the lists of matchers that are tried it matches.
use Rattle.std.specs.Prelude.{◌≢◌, ◌<◌, ℕ, List, [], ◌∷◌, ◌++◌, length, Bool, ⊤}
use Rattle.std.specs.Prelude.{if◌then◌else◌}
use Rattle.std.specs.List.{flat_map, AllByRecursion}
use Rattle.am_universe.specs.LabelSet.{LabelMap, label_set_of}
use Rattle.am_labels.specs.Matcher.{Matcher, all_hold}
use Rattle.am_labels.specs.Space.{Space, IsChoiceOf}
use Rattle.am_config.specs.ConfigFile.{Configuration, RouteTree, Routes, route, no_routes}
use Rattle.am_config.specs.ConfigFile.{next_route}
use Rattle.am_eval.specs.Routing.{is_last}
use Rattle.am_outcomes.specs.Configurations.{Tried}
use Rattle.am_outcomes.specs.declared.limits.TheConstants.{MAX_WAYS}

-- The way of an alert through some configurations, one after the other: for each route that is
-- tried, in preorder, whether the alert matches it. The children of a route are tried if the alert
-- matches the route, up to and including the first child that matches it and lacks `continue`.
-- Source: Alertmanager configuration reference 0.25, "<route>": which routes are tried.
-- Example: let `/0` have `team="db"` and a child `/0/0` with `severity="critical"`, let `/1` have
-- `team="web"`, and let no route have `continue`. For a critical alert of the team `db` the way is
-- true, true and true, for `/`, `/0` and `/0/0`. For an alert of the team `web` it is true, false
-- and true, for `/`, `/0` and `/1`.
abbrev mutual
  pub way_at : LabelMap → RouteTree → List Bool
  way_at s (route settings children) =
      let matched = all_hold s settings.matchers in
      matched ∷ (if matched then child_way s children else [])

  -- the way through children, in order
  pub child_way : LabelMap → Routes → List Bool
  child_way s no_routes = []
  child_way s (next_route t ts) =
      way_at s t ++ (if is_last s t then [] else child_way s ts)

abbrev pub routes_way : LabelMap → List Configuration → List Bool
routes_way s cs = flat_map (λ c. way_at s c.root) cs

-- The way of an alert through lists of matchers: for each list that is tried, whether the alert
-- matches it. The lists are tried up to and including the first one that the alert matches.
-- Source: own choice. It is asked only whether the alert matches some list.
-- Example: let there be the lists `team="db"`, `team="web"` and `severity="warning"`. For an alert
-- of the team `web` the way is false and true, whatever its severity.
abbrev pub list_way : LabelMap → List (List Matcher) → List Bool
list_way s [] = []
list_way s (ms ∷ lists) =
    let matched = all_hold s ms in matched ∷ (if matched then [] else list_way s lists)

-- The way of an alert through all that is tried: the routes of each configuration, one after the
-- other, and then the lists of matchers.
abbrev pub way : LabelMap → Tried → List Bool
way s t = routes_way s t.configurations ++ list_way s t.lists

abbrev pub way_of : Space → Tried → List ℕ → List Bool
way_of s t choice = way (label_set_of s.labels choice) t

-- Choices have distinct ways if no two of them have the same way. There are many ways if more than
-- `MAX_WAYS` choices of a space have distinct ways.
-- Source: own choice.
-- Example: let the children of the top-level route have `continue`, and let each of them ask with
-- `=` about a label of its own, which may have that value or be absent. With 21 of them there are
-- many ways: the choices have 2,097,152. With 20 there are not.
abbrev pub HaveDistinctWays : Space → Tried → List (List ℕ) → Type 0
HaveDistinctWays s t [] = ⊤
HaveDistinctWays s t (choice ∷ others) =
    AllByRecursion (λ other. way_of s t choice ≢ way_of s t other) others
    × HaveDistinctWays s t others

pub record HaveManyWays (s : Space) (t : Tried) : Type 0 where
  pub choices : List (List ℕ)
  pub each : AllByRecursion (IsChoiceOf s) choices
  pub apart : HaveDistinctWays s t choices
  pub many : MAX_WAYS < length choices
