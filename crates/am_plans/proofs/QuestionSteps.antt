-- The lists of a question are made from those of its parts.
use Rattle.std.proofs.Common.{◌≡◌, ℕ, List, not, ◌&&◌, ◌||◌, ap, sym, ◌∙◌, refl, Bool, Box}
use Rattle.std.specs.Prelude.{◌==◌}
use Rattle.std.specs.List.{list_any}
use Rattle.std.specs.Global.{Global}
use Rattle.std.specs.Prelude.{IsTrue}
use Rattle.std.proofs.lemmas.Bool.{or_left, or_right}
use Rattle.am_universe.specs.Text.{same_text}
use Rattle.am_universe.specs.Universe.{Label, sizes}
use Rattle.am_config.specs.declared.routes.RouteList.{RouteList}
use Rattle.am_config.specs.ConfigFile.{Configuration, RouteTree, receiver_of}
use Rattle.am_config.specs.RoutePaths.{all_routes}
use Rattle.am_judged_lists.specs.declared.cube_set.CubeSet.{CubeSet}
use Rattle.am_universe.specs.Choice.{admits}
use Rattle.am_eval.specs.declared.property.Property.{Property}
use Rattle.am_eval.specs.declared.property.Property.TheVariants.{Silenced, Inhibited}
use Rattle.am_eval.specs.declared.reach.Reach.{Reach}
use Rattle.am_eval.specs.declared.reach.Reach.TheVariants.{Ends}
use Rattle.am_eval.specs.Conditions.{Literal, some_way_holds, ways_to_reach, paths_to}
use Rattle.am_eval.proofs.SomeWay.{some_way-joined}
use Rattle.am_eval.specs.Tree.{Part, Not, And, Or}
use Rattle.am_eval.specs.Question.{Question, Is, Receiver, Route}
use Rattle.am_eval.specs.World.{World}
use Rattle.am_judged_lists.specs.declared.certainty.Certainty.{Certainty}
use Rattle.am_judged_lists.specs.Certainty.{passes, other}
use Rattle.am_plans.specs.declared.question_lists.QuestionLists.{QuestionLists}
use Rattle.am_plans.specs.declared.question_lists.QuestionLists.TheFolds.{fold-roll-QuestionLists}
use Rattle.am_plans.specs.declared.question_lists.QuestionLists.TheOpen.{QuestionLists-F}
use Rattle.am_plans.specs.declared.question_lists.QuestionLists.TheVariants as lists
use Rattle.am_plans.specs.declared.world_lists.Need.{Need}
use Rattle.am_plans.specs.declared.world_lists.Need.TheVariants as needs
use Rattle.am_plans.specs.RouteGroups.{AreRoutesOf, IsGroup}
use Rattle.am_plans.specs.Verdicts.{verdict_of_literal, verdict_of_simple, verdict_of_question}
use Rattle.am_plans.specs.WorldByLists.{WorldSeen, has_seen, needs_of, AreRoutes, IsServed, Serves}
use Rattle.am_plans.specs.QuestionByLists.{question_step, question_by, AreListsOf}
use Rattle.am_plans.proofs.Kleene.{passes_not, passes_and, passes_or, passes_simple}
use Rattle.am_plans.proofs.RoutesAsked.{of_receiver, of_path, no_ways}

-- ---- Simple parts.

has_served : (u : List Label) (w : World) (prefix : List ℕ) (m : Certainty) (seen : WorldSeen)
    (property : Property) → Serves u w prefix seen (Part (Is property))
    → has_seen seen m property ≡ passes m (verdict_of_simple u w (Is property) prefix)
has_served u w prefix m seen Silenced serves = serves needs.Silences refl m
has_served u w prefix m seen Inhibited serves = serves needs.Pairs refl m
has_served u w prefix m seen other serves = sym (passes_simple m u w (Is other) prefix)

pub is_made : (u : List Label) (routes : RouteList) (property : Property)
    → AreListsOf u routes (Part (Is property)) (lists.Is property)
is_made u routes property w prefix seen m listed knows serves =
    ap (λ q. question_by prefix seen q m) (sym (lists.rolls-Is property))
    ∙ ap (λ f. f m) (fold-roll-QuestionLists (Certainty → Bool) (question_step prefix seen)
    (QuestionLists-F.Is property))
    ∙ has_served u w prefix m seen property serves

-- what a question about some routes says
routes_say : (u : List Label) (w : World) (prefix : List ℕ) (seen : WorldSeen) (m : Certainty)
    (reach : Reach) (places : CubeSet) (chosen : List ℕ × RouteTree → Bool)
    → IsGroup (all_routes w.config) chosen places → AreRoutes u w prefix seen.reaches
    → question_by prefix seen (lists.Routes reach places) m
    ≡ list_any (λ found. chosen found
    && passes m (verdict_of_simple u w (Route reach found.0) prefix)) (all_routes w.config)
routes_say u w prefix seen m reach places chosen group are =
    ap (λ q. question_by prefix seen q m) (sym (lists.rolls-Routes reach places))
    ∙ ap (λ f. f m) (fold-roll-QuestionLists (Certainty → Bool) (question_step prefix seen)
    (QuestionLists-F.Routes reach places))
    ∙ are m reach places chosen group

pub receiver_made : (u : List Label) (routes : RouteList) (receiver : ℕ) (places : CubeSet)
    → ((c : Configuration) → AreRoutesOf c routes
    → IsGroup (all_routes c) (λ found. receiver_of found.1 == receiver) places)
    → AreListsOf u routes (Part (Receiver receiver)) (lists.Routes Ends places)
receiver_made u routes receiver places group w prefix seen m listed knows serves =
    let says : Literal → Bool = λ l. passes m (verdict_of_literal u prefix l) in
    let ways = ways_to_reach w.config Ends in
    routes_say u w prefix seen m Ends places (λ found. receiver_of found.1 == receiver)
    (group w.config listed) (serves needs.Routes refl)
    ∙ (λ i. list_any (λ (found : List ℕ × RouteTree). (receiver_of found.1 == receiver)
    && passes_simple m u w (Route Ends found.0) prefix i) (all_routes w.config))
    ∙ of_receiver w.config (λ path. some_way_holds says (ways path)) receiver
    ∙ sym (passes_simple m u w (Receiver receiver) prefix
    ∙ some_way-joined says ways (paths_to receiver w.config.root))

pub route_made : (u : List Label) (routes : RouteList) (reach : Reach) (path : List ℕ) (places : CubeSet)
    → ((c : Configuration) → AreRoutesOf c routes
    → IsGroup (all_routes c) (λ found. same_text found.0 path) places)
    → AreListsOf u routes (Part (Route reach path)) (lists.Routes reach places)
route_made u routes reach path places group w prefix seen m listed knows serves =
    let says : Literal → Bool = λ l. passes m (verdict_of_literal u prefix l) in
    let ways = ways_to_reach w.config reach in
    routes_say u w prefix seen m reach places (λ found. same_text found.0 path)
    (group w.config listed) (serves needs.Routes refl)
    ∙ (λ i. list_any (λ (found : List ℕ × RouteTree). same_text found.0 path
    && passes_simple m u w (Route reach found.0) prefix i) (all_routes w.config))
    ∙ of_path w.config (λ q. some_way_holds says (ways q)) path
    (λ none. ap (some_way_holds says) (no_ways w.config reach path none))
    ∙ sym (passes_simple m u w (Route reach path) prefix)

-- ---- Joined parts.

pub not_made : (u : List Label) (routes : RouteList) (q : Question)
    (part : Box QuestionLists Global)
    → AreListsOf u routes q part.value → AreListsOf u routes (Not q) (lists.Not part)
not_made u routes q part are w prefix seen m listed knows serves =
    ap (λ q. question_by prefix seen q m) (sym (lists.rolls-Not part))
    ∙ ap (λ f. f m) (fold-roll-QuestionLists (Certainty → Bool) (question_step prefix seen)
    (QuestionLists-F.Not part))
    ∙ ap not (are w prefix seen (other m) listed knows serves)
    ∙ sym (passes_not m (verdict_of_question u w q prefix))

module _ (u : List Label) (routes : RouteList) (q r : Question)
    (left right : Box QuestionLists Global) (first : AreListsOf u routes q left.value)
    (second : AreListsOf u routes r right.value) where
  -- what both ask about is seen, so both are exact
  both_exact : (w : World) (prefix : List ℕ) (seen : WorldSeen) (m : Certainty)
      → AreRoutesOf w.config routes → IsTrue (admits (sizes u) prefix)
      → ((need : Need) → IsTrue (needs_of need q || needs_of need r)
      → IsServed u w prefix seen need)
      → (question_by prefix seen left.value m ≡ passes m (verdict_of_question u w q prefix))
      × (question_by prefix seen right.value m ≡ passes m (verdict_of_question u w r prefix))
  both_exact w prefix seen m listed knows serves = (
    first w prefix seen m listed knows
        (λ need e. serves need (or_left (needs_of need q) (needs_of need r) e)),
    second w prefix seen m listed knows
        (λ need e. serves need (or_right (needs_of need q) (needs_of need r) e)),
  )

  pub and_made : AreListsOf u routes (And q r) (lists.And left right)
  and_made w prefix seen m listed knows serves =
      let both = both_exact w prefix seen m listed knows serves in
      ap (λ q. question_by prefix seen q m) (sym (lists.rolls-And left right))
      ∙ ap (λ f. f m) (fold-roll-QuestionLists (Certainty → Bool) (question_step prefix seen)
      (QuestionLists-F.And left right))
      ∙ (λ i. both.0 i && both.1 i)
      ∙ sym (passes_and m (verdict_of_question u w q prefix) (verdict_of_question u w r prefix))

  pub or_made : AreListsOf u routes (Or q r) (lists.Or left right)
  or_made w prefix seen m listed knows serves =
      let both = both_exact w prefix seen m listed knows serves in
      ap (λ q. question_by prefix seen q m) (sym (lists.rolls-Or left right))
      ∙ ap (λ f. f m) (fold-roll-QuestionLists (Certainty → Bool) (question_step prefix seen)
      (QuestionLists-F.Or left right))
      ∙ (λ i. both.0 i || both.1 i)
      ∙ sym (passes_or m (verdict_of_question u w q prefix) (verdict_of_question u w r prefix))
