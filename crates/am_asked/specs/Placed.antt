-- The matchers that decide, each with its origin.
use Rattle.std.specs.Prelude.{ℕ, List, [], ◌++◌, map, Bool, Option}
use Rattle.std.specs.Prelude.{Some, None, slice_get}
use Rattle.std.specs.List.{flat_map, filter, enumerate_from}
use Rattle.am_universe.specs.LabelSet.{LabelMap}
use Rattle.am_labels.specs.Matcher.{Matcher, all_hold}
use Rattle.am_list_files.specs.SilencesFile.{Silence}
use Rattle.am_config.specs.ConfigFile.{Configuration, RouteTree, Rule, matchers_of}
use Rattle.am_config.specs.RoutePaths.{all_routes}
use Rattle.am_eval.specs.declared.pair.Pair.{Pair}
use Rattle.am_eval.specs.World.{World}
use Rattle.am_eval.specs.Question.{Question}
use Rattle.am_complete.specs.declared.origin.Origin.{Origin}
use Rattle.am_complete.specs.declared.origin.Origin.TheVariants as origin_is
use Rattle.am_complete.specs.FoundState.{begins}
use Rattle.am_asked.specs.Asked.{equal_to_alert, question_matchers}

-- Matchers that all have the same origin.
abbrev pub placed_at : Origin → List Matcher → List (Origin × Matcher)
placed_at origin ms = map (λ m. (origin, m)) ms

-- The matchers of the route at a path; and those of all routes, in preorder.
abbrev pub placed_by_route : List ℕ × RouteTree → List (Origin × Matcher)
placed_by_route found = placed_at (origin_is.Route found.0) (matchers_of found.1)

abbrev pub placed_in_routes : Configuration → List (Origin × Matcher)
placed_in_routes c = flat_map placed_by_route (all_routes c)

-- The matchers of both sides of the rule at a position; and those of all rules.
abbrev pub placed_in_rule : ℕ × Rule → List (Origin × Matcher)
placed_in_rule rule =
    placed_at (origin_is.Rule rule.0) rule.1.source
    ++ placed_at (origin_is.Rule rule.0) rule.1.target

abbrev pub placed_in_rules : List Rule → List (Origin × Matcher)
placed_in_rules rules = flat_map placed_in_rule (enumerate_from 0 rules)

-- The name of a matcher is not empty. This holds of each matcher in memory.
abbrev pub is_named : Matcher → Bool
is_named m = begins m.name

-- What `equal` of the rule at a position asks if an alert fires that its source side matches. Empty
-- names are left out. The same for a pair of a rule and an alert, by their positions; and for all
-- rules.
abbrev pub placed_by_alert : ℕ × Rule → LabelMap → List (Origin × Matcher)
placed_by_alert rule a =
    placed_at (origin_is.Rule rule.0) (filter is_named (equal_to_alert rule.1.equal a))

abbrev pub placed_by : ℕ → Option Rule → Option LabelMap → List (Origin × Matcher)
placed_by position None alert = []
placed_by position (Some rule) None = []
placed_by position (Some rule) (Some a) = placed_by_alert (position, rule) a

abbrev pub placed_by_pair : World → Pair → List (Origin × Matcher)
placed_by_pair w pair =
    placed_by pair.rule (slice_get w.config.rules pair.rule) (slice_get w.alerts pair.alert)

abbrev pub placed_in_equal : World → List (Origin × Matcher)
placed_in_equal w =
    flat_map
    (λ rule. flat_map (placed_by_alert rule) (filter (λ a. all_hold a rule.1.source) w.alerts))
    (enumerate_from 0 w.config.rules)

-- The matchers of the silence at a position; and those of all silences.
abbrev pub placed_in_silence : ℕ × Silence → List (Origin × Matcher)
placed_in_silence silence = placed_at (origin_is.Silence silence.0) silence.1.matchers

abbrev pub placed_in_silences : List Silence → List (Origin × Matcher)
placed_in_silences silences = flat_map placed_in_silence (enumerate_from 0 silences)

-- The matchers in the braces of the question at a position; and those of all questions.
abbrev pub placed_in_question : ℕ × Question → List (Origin × Matcher)
placed_in_question question =
    placed_at (origin_is.Question question.0) (question_matchers question.1)

abbrev pub placed_in_questions : List Question → List (Origin × Matcher)
placed_in_questions questions = flat_map placed_in_question (enumerate_from 0 questions)

-- The matchers of the impossible list at a position; and those of all impossible lists.
abbrev pub placed_in_list : ℕ × List Matcher → List (Origin × Matcher)
placed_in_list list = placed_at (origin_is.Impossible list.0) list.1

abbrev pub placed_in_lists : List (List Matcher) → List (Origin × Matcher)
placed_in_lists lists = flat_map placed_in_list (enumerate_from 0 lists)

-- All matchers that decide in a world, each with its origin.
-- Source: own choice.
-- Example: a world with one route, no rule and no silence has no such matchers.
abbrev pub placed_in_world : World → List (Origin × Matcher)
placed_in_world w =
    placed_in_routes w.config
    ++ (placed_in_rules w.config.rules ++ (placed_in_equal w ++ placed_in_silences w.silences))
