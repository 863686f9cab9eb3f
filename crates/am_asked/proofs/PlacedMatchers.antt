-- The placed matchers, without their origins, are the matchers that decide.
use Rattle.std.proofs.Common.{◌≡◌, ℕ, ◌+◌, Bool, List, [], ◌∷◌, ◌++◌, map, refl, sym, ap, ◌∙◌, subst}
use Rattle.std.proofs.Common.{arith}
use Rattle.std.specs.List.{flat_map, filter, enumerate_from}
use Rattle.std.proofs.lemmas.Bool.{cases_Bool}
use Rattle.std.proofs.lemmas.Grind.{flat_map-append, common_steps}
use Rattle.std.proofs.lemmas.List.{map-append}
use Rattle.std.proofs.lemmas.List.Elements.{filter-append}
use Rattle.am_universe.specs.LabelSet.{LabelMap}
use Rattle.am_labels.specs.Matcher.{Matcher, all_hold}
use Rattle.am_list_files.specs.SilencesFile.{Silence}
use Rattle.am_config.specs.ConfigFile.{RouteTree, Routes, route, no_routes, next_route, Rule}
use Rattle.am_config.specs.RoutePaths.{routes_at, routes_from}
use Rattle.am_eval.specs.World.{World}
use Rattle.am_eval.specs.Question.{Question}
use Rattle.am_complete.specs.declared.origin.Origin.{Origin}
use Rattle.am_complete.specs.declared.origin.Origin.TheVariants as origin_is
use Rattle.am_asked.specs.Asked.{route_matchers, routes_matchers, rule_matchers}
use Rattle.am_asked.specs.Asked.{equal_to_alert, equal_matchers, silence_matchers}
use Rattle.am_asked.specs.Asked.{world_matchers, question_matchers, questions_matchers}
use Rattle.am_complete.specs.Complete.{impossible_matchers}
use Rattle.am_asked.specs.Placed.{placed_at, placed_by_route, placed_in_rule, placed_in_rules}
use Rattle.am_asked.specs.Placed.{placed_by_alert, placed_in_equal, is_named, placed_in_silence}
use Rattle.am_asked.specs.Placed.{placed_in_silences, placed_in_list, placed_in_lists}
use Rattle.am_asked.specs.Placed.{placed_in_world, placed_in_question, placed_in_questions}

-- matchers without their origins
abbrev pub conditions_of : List (Origin × Matcher) → List Matcher
conditions_of placed = map (λ p. p.1) placed

-- placed matchers, without their origins, are some matchers, except for matchers without a name
pub record Places (placed : List (Origin × Matcher)) (ms : List Matcher) : Type 0 where
  pub same : filter is_named (conditions_of placed) ≡ filter is_named ms

pub both_placed : {ps qs : List (Origin × Matcher)} {ms ns : List Matcher} → Places ps ms
    → Places qs ns → Places (ps ++ qs) (ms ++ ns)
both_placed {ps} {qs} {ms} {ns} p q = record {
  same = ap (filter is_named) (map-append (λ x. x.1) ps qs)
      ∙ filter-append is_named (conditions_of ps) (conditions_of qs)
      ∙ (λ i. p.same i ++ q.same i) ∙ sym (filter-append is_named ms ns);
}

-- ---- The matchers of one thing, and of several.

without_origin : (origin : Origin) (ms : List Matcher) → conditions_of (placed_at origin ms) ≡ ms
without_origin origin [] = refl
without_origin origin (m ∷ ms) = ap (λ rest. m ∷ rest) (without_origin origin ms)

pub at_one_place : (origin : Origin) (ms : List Matcher) → Places (placed_at origin ms) ms
at_one_place origin ms = record { same = ap (filter is_named) (without_origin origin ms) }

filter_twice : {X : Type 0} (test : X → Bool) (xs : List X)
    → filter test (filter test xs) ≡ filter test xs
filter_twice test [] = refl
filter_twice test (x ∷ xs) = grind (arith, common_steps, cases_Bool, filter_twice test xs)

named_at : (origin : Origin) (ms : List Matcher)
    → Places (placed_at origin (filter is_named ms)) ms
named_at origin ms = record {
  same = ap (filter is_named) (without_origin origin (filter is_named ms))
      ∙ filter_twice is_named ms;
}

of_each : {X : Type 0} (f : X → List (Origin × Matcher)) (g : X → List Matcher)
    → ((x : X) → Places (f x) (g x)) → (xs : List X) → Places (flat_map f xs) (flat_map g xs)
of_each f g each [] = record { same = refl }
of_each f g each (x ∷ xs) = both_placed (each x) (of_each f g each xs)

pub of_things : {X : Type 0} (f : ℕ × X → List (Origin × Matcher)) (g : X → List Matcher)
    → ((p : ℕ × X) → Places (f p) (g p.1)) → (i : ℕ) (xs : List X)
    → Places (flat_map f (enumerate_from i xs)) (flat_map g xs)
of_things f g each i [] = record { same = refl }
of_things f g each i (x ∷ xs) = both_placed (each (i, x)) (of_things f g each (i + 1) xs)

-- ---- The parts of the files, and of the call.

mutual
  pub of_routes : (path : List ℕ) (t : RouteTree)
      → Places (flat_map placed_by_route (routes_at path t)) (route_matchers t)
  of_routes path (route settings children) =
      both_placed (at_one_place (origin_is.Route path) settings.matchers)
      (of_children path 0 children)

  of_children : (path : List ℕ) (i : ℕ) (ts : Routes)
      → Places (flat_map placed_by_route (routes_from path i ts)) (routes_matchers ts)
  of_children path i no_routes = record { same = refl }
  of_children path i (next_route t ts) =
      subst (λ (ps : List (Origin × Matcher)). Places ps (routes_matchers (next_route t ts)))
      (sym (flat_map-append placed_by_route (routes_at (path ++ i ∷ []) t)
      (routes_from path (i + 1) ts)))
      (both_placed (of_routes (path ++ i ∷ []) t) (of_children path (i + 1) ts))

of_rules : (rules : List Rule) → Places (placed_in_rules rules) (rule_matchers rules)
of_rules rules =
    of_things placed_in_rule (λ rule. rule.source ++ rule.target)
    (λ p. both_placed (at_one_place (origin_is.Rule p.0) p.1.source)
    (at_one_place (origin_is.Rule p.0) p.1.target)) 0 rules

of_equal : (w : World) → Places (placed_in_equal w) (equal_matchers w.config.rules w.alerts)
of_equal w =
    let fires : Rule → List LabelMap = λ rule. filter (λ a. all_hold a rule.source) w.alerts in
    of_things (λ rule. flat_map (placed_by_alert rule) (fires rule.1))
    (λ rule. flat_map (equal_to_alert rule.equal) (fires rule))
    (λ p. of_each (placed_by_alert p) (equal_to_alert p.1.equal)
    (λ a. named_at (origin_is.Rule p.0) (equal_to_alert p.1.equal a)) (fires p.1))
    0 w.config.rules

of_silences : (silences : List Silence)
    → Places (placed_in_silences silences) (silence_matchers silences)
of_silences silences =
    of_things placed_in_silence (λ silence. silence.matchers)
    (λ p. at_one_place (origin_is.Silence p.0) p.1.matchers) 0 silences

pub of_questions : (questions : List Question)
    → Places (placed_in_questions questions) (questions_matchers questions)
of_questions questions =
    of_things placed_in_question question_matchers
    (λ p. at_one_place (origin_is.Question p.0) (question_matchers p.1)) 0 questions

pub of_impossible : (lists : List (List Matcher))
    → Places (placed_in_lists lists) (impossible_matchers lists)
of_impossible lists =
    of_things placed_in_list (λ ms. ms) (λ p. at_one_place (origin_is.Impossible p.0) p.1) 0 lists

pub of_world : (w : World) → Places (placed_in_world w) (world_matchers w)
of_world w =
    both_placed (of_routes [] w.config.root)
    (both_placed (of_rules w.config.rules) (both_placed (of_equal w) (of_silences w.silences)))
