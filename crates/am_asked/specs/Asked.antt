-- Which matchers decide what becomes of an alert.
use Rattle.std.specs.Prelude.{ℕ, List, [], ◌++◌, map}
use Rattle.std.specs.List.{flat_map, filter}
use Rattle.am_universe.specs.LabelSet.{LabelMap}
use Rattle.am_labels.specs.Matcher.{Matcher, all_hold}
use Rattle.am_list_files.specs.SilencesFile.{Silence}
use Rattle.am_config.specs.ConfigFile.{RouteTree, Routes, route, no_routes, next_route, Rule}
use Rattle.am_eval.specs.World.{World}
use Rattle.am_eval.specs.Conditions.{same_value}
use Rattle.am_eval.specs.Tree.{Part, Not, And, Or}
use Rattle.am_eval.specs.Question.{Question, Simple, Is, Receiver, Route, Braces}

-- The matchers of a route and of all routes below it, in preorder; and those of a list of children.
abbrev mutual
  pub route_matchers : RouteTree → List Matcher
  route_matchers (route settings children) = settings.matchers ++ routes_matchers children

  pub routes_matchers : Routes → List Matcher
  routes_matchers no_routes = []
  routes_matchers (next_route t ts) = route_matchers t ++ routes_matchers ts

-- The matchers of both sides of inhibition rules, rule by rule.
abbrev pub rule_matchers : List Rule → List Matcher
rule_matchers rules = flat_map (λ rule. rule.source ++ rule.target) rules

-- What `equal` asks, as matchers. For each rule, each alert that its source side matches, and each
-- name in `equal`, a matcher asks for the value that the label has in that alert.
-- Source: Alertmanager configuration reference 0.25, "<inhibit_rule>": `equal`.
-- Example: let `equal` have `team`, and let an alert of the team `db` fire that the source side
-- matches. Then the matcher is `team="db"`.
abbrev pub equal_to_alert : List (List ℕ) → LabelMap → List Matcher
equal_to_alert names a = map (same_value a) names

abbrev pub equal_matchers : List Rule → List LabelMap → List Matcher
equal_matchers rules alerts =
    flat_map
    (λ rule. flat_map (equal_to_alert rule.equal) (filter (λ a. all_hold a rule.source) alerts))
    rules

-- The matchers of silences, whatever the instant.
abbrev pub silence_matchers : List Silence → List Matcher
silence_matchers silences = flat_map (λ silence. silence.matchers) silences

-- All matchers that decide where an alert ends in a world, and what silences or inhibits it: those
-- of the routes, of the rules, of `equal`, and of the silences.
-- Source: own choice.
-- Example: a world with one route, no rule and no silence has no such matchers.
abbrev pub world_matchers : World → List Matcher
world_matchers w =
    route_matchers w.config.root
    ++ (rule_matchers w.config.rules
    ++ (equal_matchers w.config.rules w.alerts ++ silence_matchers w.silences))

-- The matchers of a question itself: those in its braces. And those of a list of questions.
-- Source: own choice.
-- Example: the only matcher of `receiver web-chat and not {env="prod"}` is `env="prod"`.
abbrev pub simple_matchers : Simple → List Matcher
simple_matchers (Is property) = []
simple_matchers (Receiver receiver) = []
simple_matchers (Route reach path) = []
simple_matchers (Braces matchers) = matchers

abbrev pub question_matchers : Question → List Matcher
question_matchers (Part simple) = simple_matchers simple
question_matchers (Not q) = question_matchers q
question_matchers (And q r) = question_matchers q ++ question_matchers r
question_matchers (Or q r) = question_matchers q ++ question_matchers r

abbrev pub questions_matchers : List Question → List Matcher
questions_matchers questions = flat_map question_matchers questions
