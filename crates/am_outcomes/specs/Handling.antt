-- How alerts are handled under two configurations. (This project's own, but for what is cited.)
use Rattle.std.specs.Prelude.{ℕ, List, [], ◌∷◌, ◌++◌, map, find, Option, Some, None, Bool, ◌&&◌}
use Rattle.std.specs.Prelude.{IsTrue, if◌then◌else◌}
use Rattle.std.specs.List.{filter_map}
use lib.Pointwise.{pointwise}
use Rattle.am_universe.specs.LabelSet.{LabelMap}
use Rattle.am_universe.specs.Text.{same_text}
use Rattle.am_labels.specs.Matcher.{all_hold}
use Rattle.am_config.specs.ConfigFile.{Configuration, RouteTree, receiver_of, options_of}
use Rattle.am_config.specs.ConfigFile.{Routes, route, no_routes, next_route}
use Rattle.am_config.specs.Path.{route_at}
use Rattle.am_eval.specs.Routing.{ends, is_last}
use Rattle.am_report_texts.specs.ReceiverNames.{receiver_name}
use Rattle.am_differences.specs.Options.{same_options, differing_options}

-- The routes that handle an alert: those at its ends, in order.
-- Source: Alertmanager configuration reference 0.25, "<route>".
-- Example: if an alert ends at `/0` and `/1`, they are these two routes.
abbrev pub handling_routes : LabelMap → Configuration → List RouteTree
handling_routes s c = filter_map (route_at c.root) (ends s c)

-- The same without paths: the routes that handle an alert from a route on. If the alert does not
-- match the route, there are none. If it does, they are those of the children that are tried, or
-- the route itself if there are none of these.
abbrev pub or_this : RouteTree → List RouteTree → List RouteTree
or_this t [] = t ∷ []
or_this t (below ∷ more) = below ∷ more

abbrev mutual
  pub handlers_at : LabelMap → RouteTree → List RouteTree
  handlers_at s (route settings children) =
      if all_hold s settings.matchers
      then or_this (route settings children) (handlers_among s children)
      else []

  pub handlers_among : LabelMap → Routes → List RouteTree
  handlers_among s no_routes = []
  handlers_among s (next_route t ts) =
      handlers_at s t ++ (if is_last s t then [] else handlers_among s ts)

-- A route of an old configuration and one of a new one do the same with alerts: their receivers
-- have the same name, and their options are the same.
-- Source: own choice. A receiver is known by its name (reference, "<receiver>": `name`).
-- Example: if both have the receiver `db-mail`, and only one has `"group_wait": "1m"`, they do not.
abbrev pub handle_alike : Configuration → Configuration → RouteTree → RouteTree → Bool
handle_alike old new r t =
    same_text (receiver_name old (receiver_of r)) (receiver_name new (receiver_of t))
    && same_options (options_of r) (options_of t)

-- An alert is handled alike under both configurations: at as many ends, one after the other, the
-- routes do the same with it.
-- Source: own choice.
-- Example: if the new configuration has the same routes and declares the same receivers in another
-- order, each alert is. If a route above an end has another `group_by`, and none below it sets
-- one, no alert that ends there is handled alike. With which other alerts it is grouped does not
-- count: Alertmanager groups the alerts of one route.
abbrev pub IsHandledAlike : Configuration → Configuration → LabelMap → Type 0
IsHandledAlike old new s =
    IsTrue (pointwise (handle_alike old new) (handling_routes s old) (handling_routes s new))

-- The receivers have the same names.
abbrev pub same_names : List (List ℕ) → List (List ℕ) → Bool
same_names names others = pointwise same_text names others

-- Routes of an old configuration and routes of a new one in pairs: each old route, in order, with
-- the first new route that has a receiver of the same name and is in no pair before. Routes without
-- such a route are in no pair.
-- Source: own choice.
-- Example: let the old routes have the receivers `a`, `b` and `a`, and the new ones `c`, `a` and
-- `a`. Then the first old route is in a pair with the second new one, and the third with the third.
abbrev pub without_first : {X : Type 0} → (X → Bool) → List X → List X
without_first test [] = []
without_first test (x ∷ xs) = if test x then xs else x ∷ without_first test xs

abbrev pub pair_of : RouteTree → Option RouteTree → List (RouteTree × RouteTree)
pair_of r None = []
pair_of r (Some t) = (r, t) ∷ []

abbrev pub has_receiver : Configuration → List ℕ → RouteTree → Bool
has_receiver c name t = same_text name (receiver_name c (receiver_of t))

abbrev pub route_pairs : Configuration → Configuration → List RouteTree → List RouteTree
    → List (RouteTree × RouteTree)
route_pairs old new [] ts = []
route_pairs old new (r ∷ rs) ts =
    let test = has_receiver new (receiver_name old (receiver_of r)) in
    pair_of r (find test ts) ++ route_pairs old new rs (without_first test ts)

-- The options, by their positions, in which an end of an alert differs from the end under the other
-- configuration with which it is in a pair.
-- Source: own choice.
-- Example: if an alert ends at a route that has another `repeat_interval` in the new configuration,
-- and the same receiver, it is the position 3. So it is if the alert goes to one more receiver too.
abbrev pub other_options : Configuration → Configuration → LabelMap → List ℕ
other_options old new s =
    differing_options (map (λ p. (options_of p.0, options_of p.1))
    (route_pairs old new (handling_routes s old) (handling_routes s new)))
