-- An alert ends at a route, enters it, or goes to a receiver, exactly if one of the ways there
-- holds.
use Rattle.std.proofs.Common.{◌≡◌, ◌↔◌, ℕ, List, [], ◌∷◌, ◌++◌, map, take, Bool, true, false, arith}
use Rattle.std.proofs.Common.{◌&&◌, ◌||◌, not, cond, Option, Some, None, refl, sym, ap, rules}
use Rattle.std.proofs.Common.{◌∙◌}
use Rattle.std.specs.Prelude.{slice_get, IsTrue, IsFalse, ◌==◌}
use Rattle.std.specs.List.{AllByRecursion, list_all, list_any, filter, filter_map}
use Rattle.std.proofs.lemmas.Bool.{and_parts, and_from, not-true}
use Rattle.std.proofs.lemmas.List.{append-nil}
use Rattle.std.proofs.lemmas.List.Folds.{list_all-map}
use Rattle.std.proofs.lemmas.Grind.{common_steps}
use Rattle.am_universe.specs.LabelSet.{LabelMap}
use Rattle.am_universe.specs.Text.{same_text}
use Rattle.am_universe.proofs.ListLemmas.{Contains-from_IsIn}
use Rattle.am_labels.specs.Matcher.{all_hold}
use Rattle.am_config.specs.ConfigFile.{RouteTree, matchers_of, children_of}
use Rattle.am_config.specs.ConfigFile.{Configuration}
use Rattle.am_config.specs.Path.{list_of, route_at}
use Rattle.am_config.specs.RoutePaths.{paths_of}
use Rattle.am_eval.specs.World.{World}
use Rattle.am_eval.specs.Routing.{ends_at, ends, receivers, receiver_at, is_last, EndsThere}
use Rattle.am_eval.specs.declared.reach.Reach.{Reach}
use Rattle.am_eval.specs.declared.reach.Reach.TheVariants.{Ends, Enters}
use Rattle.am_eval.specs.Question.{Receiver, Route, holds_of}
use Rattle.am_eval.specs.Conditions.{Literal, literal_holds, some_way_holds, matching}
use Rattle.am_eval.specs.Conditions.{stopped_by_none, no_child_of, asked_at, ways_into, ways_below}
use Rattle.am_eval.specs.Conditions.{ways_to_reach, is_receiver, paths_to, ways_to_receiver}
use Rattle.am_labels.proofs.Passing.{any_in, in_any, passes_from_kept, kept_from_passes}
use Rattle.am_eval.proofs.EndLaws.{exactly, at_routes}
use Rattle.am_eval.proofs.FlatEnds.{ends_exactly, matched_ends}
use Rattle.am_eval.proofs.ListTests.{all_exactly, one_of, some_passes, passes_among}
use Rattle.am_eval.proofs.SimpleParts.{ends_there, end_from_test, test_from_end}
use Rattle.am_eval.proofs.RoutePathLaws.{is_path}
use Rattle.am_eval.proofs.SomeWay.{some_way-literal, some_way-front, some_way-joined}

-- two tests that decide the same are the same
pub same_test : {P : Type 0} (a b : Bool) → (IsTrue a ↔ P) → (IsTrue b ↔ P) → a ≡ b
same_test a b h g = grind (arith, common_steps)

pub through : {P Q R : Type 0} → (P ↔ Q) → (Q ↔ R) → P ↔ R
through first then = (λ h. then.0 (first.0 h), λ h. first.1 (then.1 h))

-- ---- Siblings and children that are not matched.

none_passes : {X : Type 0} (test : X → Bool) (xs : List X) (says : Bool)
    → says ≡ list_all (λ x. not (test x)) xs
    → AllByRecursion (λ x. IsFalse (test x)) xs ↔ IsTrue says
none_passes test xs says same =
    let none = all_exactly (λ x. not (test x)) _ (λ x. (not-true (test x), λ e. ap not e)) xs in
    (λ h. same ∙ none.1 h, λ h. none.0 (sym same ∙ h))

-- a sibling that continues gives no literal, and does not stop an alert
one_kept : {X : Type 0} (holds : Literal → Bool) (f : X → Literal) (matches continues : Bool)
    (x : X) (xs : List X) → holds (f x) ≡ not matches
    → list_all holds (map f (cond (not continues) (x ∷ xs) xs))
    ≡ (not (matches && not continues) && list_all holds (map f xs))
one_kept holds f matches continues x xs e = grind (arith, common_steps)

passing_holds : (s : LabelMap) (ts : List RouteTree)
    → list_all (literal_holds s) (stopped_by_none ts) ≡ list_all (λ t. not (is_last s t)) ts
passing_holds s [] = refl
passing_holds s (t ∷ ts) = grind (arith, common_steps, one_kept, passing_holds s ts)

passed : (s : LabelMap) (ts : List RouteTree)
    → AllByRecursion (λ t. IsFalse (is_last s t)) ts
    ↔ IsTrue (list_all (literal_holds s) (stopped_by_none ts))
passed s ts = none_passes (is_last s) ts _ (passing_holds s ts)

no_child : (s : LabelMap) (t : RouteTree)
    → AllByRecursion (λ child. IsFalse (all_hold s (matchers_of child))) (list_of (children_of t))
    ↔ IsTrue (list_all (literal_holds s) (no_child_of t))
no_child s t = search (rules, none_passes, list_all-map)

-- ---- Down by a path.

abbrev GoesDown : LabelMap → Reach → RouteTree → List ℕ → Type 0
GoesDown s reach t path =
    IsTrue (some_way_holds (literal_holds s) (ways_into (λ u. ways_below reach u path) (Some t)))

-- the path is empty: what is asked at the last route
or_nothing : (b : Bool) → (b || false) ≡ b
or_nothing true = refl
or_nothing false = refl

there : (s : LabelMap) (reach : Reach) (t : RouteTree)
    → GoesDown s reach t []
    ↔ (IsTrue (all_hold s (matchers_of t)) × IsTrue (list_all (literal_holds s) (asked_at reach t)))
there s reach t = grind (arith, common_steps, some_way-literal, or_nothing, and_parts, and_from)

-- the path is not empty: a step down to a child
some_route : (s : LabelMap) (further : RouteTree → List (List Literal)) (o : Option RouteTree)
    → IsTrue (some_way_holds (literal_holds s) (ways_into further o))
    → (t : RouteTree) × (o ≡ Some t)
    × IsTrue (some_way_holds (literal_holds s) (ways_into further (Some t)))
some_route s further None h = absurd (cc)
some_route s further (Some t) h = (t, refl, h)

abbrev GoesOn : LabelMap → Reach → RouteTree → ℕ → List ℕ → Type 0
GoesOn s reach t p path =
    IsTrue (all_hold s (matchers_of t))
    × (child : RouteTree) × (slice_get (list_of (children_of t)) p ≡ Some child)
    × AllByRecursion (λ earlier. IsFalse (is_last s earlier)) (take p (list_of (children_of t)))
    × GoesDown s reach child path

further : (s : LabelMap) (reach : Reach) (t : RouteTree) (p : ℕ) (path : List ℕ)
    → GoesDown s reach t (p ∷ path) ↔ GoesOn s reach t p path
further s reach t p path =
    let holds = literal_holds s in
    let matched = all_hold s (matchers_of t) in
    let children = list_of (children_of t) in
    let before = stopped_by_none (take p children) in
    let below = λ (child : RouteTree). ways_below reach child path in
    let rest = some_way_holds holds (ways_into below (slice_get children p)) in
    let all = some_way-literal holds (matching (matchers_of t)) (ways_below reach t (p ∷ path))
    ∙ ap (λ b. matched && b)
    (some_way-front holds before (ways_into below (slice_get children p))) in
    grind (arith, common_steps, and_parts, some_route, passed, and_from)

-- ---- To a route.

end_of_matched : (s : LabelMap) (t : RouteTree) → IsTrue (all_hold s (matchers_of t))
    → (path : List ℕ) × EndsThere s t path
end_of_matched s t h =
    let one = one_of (ends_at s t) (matched_ends s t h) in
    (one.0, (ends_exactly s t one.0).0 (Contains-from_IsIn (ends_at s t) one.0 one.1))

matched_at_end : (s : LabelMap) (t : RouteTree) (path : List ℕ) → EndsThere s t path
    → IsTrue (all_hold s (matchers_of t))
matched_at_end s t [] h = h.0
matched_at_end s t (p ∷ path) h = h.0

-- what may follow the path of a route in the path of an end, if an alert reaches the route: nothing
-- if it ends there, and any path if it enters the route
abbrev MayBeBelow : Reach → List ℕ → Type 0
MayBeBelow Ends below = below ≡ []
MayBeBelow Enters below = Unit {0}

abbrev ReachesThere : LabelMap → Reach → RouteTree → List ℕ → Type 0
ReachesThere s reach t path =
    (below : List ℕ) × MayBeBelow reach below × EndsThere s t (path ++ below)

at_route : (s : LabelMap) (reach : Reach) (t : RouteTree)
    → ReachesThere s reach t [] ↔ GoesDown s reach t []
at_route s Ends t = grind (arith, common_steps, no_child, there)
at_route s Enters t = grind (arith, common_steps, there, matched_at_end, end_of_matched)

reached_by : (s : LabelMap) (reach : Reach) (t : RouteTree) (path : List ℕ)
    → ReachesThere s reach t path ↔ GoesDown s reach t path
reached_by s reach t [] = at_route s reach t
reached_by s reach t (p ∷ path) =
    let goes = further s reach t p path in (
      λ h.
          let on = h.2 in
          goes.1 (on.0, on.1, on.2, on.3, (reached_by s reach on.1 path).0 (h.0, h.1, on.4)),
      λ h.
          let on = goes.0 h in
          let end = (reached_by s reach on.1 path).1 on.4 in
          (end.0, end.1, (on.0, on.1, on.2, on.3, end.2)),
    )

reached : (w : World) (s : LabelMap) (reach : Reach) (path : List ℕ)
    → IsTrue (holds_of w (Route reach path) s) ↔ ReachesThere s reach w.config.root path
reached w s Ends path = grind (arith, common_steps, through, ends_there, ends_exactly, append-nil)
reached w s Enters path = grind (arith, common_steps, through, ends_there, ends_exactly, exactly)

pub route_condition : (w : World) (s : LabelMap) (reach : Reach) (path : List ℕ)
    → holds_of w (Route reach path) s
    ≡ some_way_holds (literal_holds s) (ways_to_reach w.config reach path)
route_condition w s reach path =
    let by = reached_by s reach w.config.root path in
    same_test _ _ (reached w s reach path) (λ h. by.1 h, λ h. by.0 h)

-- ---- To a receiver.

-- whether an alert ends at a path
abbrev pub is_end : LabelMap → Configuration → List ℕ → Bool
is_end s c path = list_any (λ end. same_text end path) (ends s c)

-- some end passes a test exactly if the alert ends at one of the routes whose paths pass it
pub ends_among : (s : LabelMap) (c : Configuration) (test : List ℕ → Bool)
    → list_any test (ends s c) ≡ list_any (is_end s c) (filter test (paths_of c))
ends_among s c test =
    let all = ends s c in
    let kept = filter test (paths_of c) in
    same_test _ _ (λ h. h, λ h. h) (
      λ h.
          let r = any_in (is_end s c) kept h in
          passes_among test all r.0 (end_from_test r.0 all r.2)
          (passes_from_kept test (paths_of c) r.0 r.1).1,
      λ h.
          let r = some_passes test all h in
          let at = at_routes c s r.0 r.1 in
          let listed = is_path c.root at.0 r.0 at.1 in
          in_any (is_end s c) kept r.0 (kept_from_passes test (paths_of c) r.0 listed r.2)
          (test_from_end r.0 all r.1),
    )

receivers_by_paths : (c : Configuration) (receiver : ℕ) (paths : List (List ℕ))
    → list_any (λ other. other == receiver) (filter_map (receiver_at c) paths)
    ≡ list_any (λ path. is_receiver receiver (route_at c.root path)) paths
receivers_by_paths c receiver [] = refl
receivers_by_paths c receiver (path ∷ paths) =
    grind (arith, common_steps, receivers_by_paths c receiver paths)

-- an alert goes to a receiver exactly if it ends at one of the routes that have it
pub goes_by_ends : (s : LabelMap) (c : Configuration) (receiver : ℕ)
    → list_any (λ other. other == receiver) (receivers s c)
    ≡ list_any (is_end s c) (paths_to receiver c.root)
goes_by_ends s c receiver =
    receivers_by_paths c receiver (ends s c)
    ∙ ends_among s c (λ path. is_receiver receiver (route_at c.root path))

pub receiver_condition : (w : World) (s : LabelMap) (receiver : ℕ)
    → holds_of w (Receiver receiver) s
    ≡ some_way_holds (literal_holds s) (ways_to_receiver w.config receiver)
receiver_condition w s receiver =
    let paths = paths_to receiver w.config.root in
    goes_by_ends s w.config receiver ∙ (λ i. list_any (λ path. route_condition w s Ends path i) paths)
    ∙ sym (some_way-joined (literal_holds s) (ways_to_reach w.config Ends) paths)
