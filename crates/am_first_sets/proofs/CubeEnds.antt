-- What the cubes of routes say of a way, and the way to a route, step by step.
use Rattle.std.proofs.Common.{◌≡◌, ℕ, zero, suc, Bool, true, false, not, ◌&&◌, ◌||◌, List, []}
use Rattle.std.proofs.Common.{◌∷◌, ◌+◌, ◌<◌, drop, drop-cons, add-one, get_or, ◌++◌, ◌≤◌, map, take}
use Rattle.std.proofs.Common.{length, Bor, Option, Some, None, refl, sym, ap, ◌∙◌, subst}
use Rattle.std.specs.Prelude.{slice_get}
use Rattle.std.specs.List.{list_all}
use Rattle.std.proofs.lemmas.Bool.{and_right}
use Rattle.std.proofs.lemmas.List.Folds.{list_all-append}
use Rattle.std.proofs.lemmas.Option.{slice_get_past}
use Rattle.am_universe.specs.Universe.{Label, sizes}
use Rattle.am_labels.specs.Matcher.{Matcher}
use Rattle.am_universe.specs.Choice.{IsWhole}
use Rattle.am_universe.specs.LabelSet.{label_set_of}
use Rattle.am_config.specs.ConfigFile.{Configuration, RouteTree, Routes, route, no_routes}
use Rattle.am_config.specs.ConfigFile.{next_route, routes_of, matchers_of, continues_of}
use Rattle.am_config.specs.Path.{list_of}
use Rattle.am_config.specs.RouteView.{route_view}
use Rattle.am_config.specs.declared.route.Route.{Route}
use Rattle.std.proofs.lemmas.List.{map_more}
use Rattle.am_judged_lists.specs.Cube.{MaskedLabels, verdict_at, matches}
use Rattle.am_judged_lists.specs.Verdicts.{verdict_of_list}
use Rattle.am_judged_lists.proofs.ListLemmas.{and_true}
use Rattle.am_eval.specs.declared.reach.Reach.{Reach}
use Rattle.am_eval.specs.declared.reach.Reach.TheVariants.{Ends, Enters}
use Rattle.am_eval.specs.Question as question
use Rattle.am_eval.specs.World.{World}
use Rattle.am_eval.specs.Conditions.{Literal, literal_holds, some_way_holds, matching, not_matching}
use Rattle.am_eval.specs.Conditions.{no_child_of, stopped_by_none, ways_into, ways_below}
use Rattle.am_eval.proofs.ConditionLaws as conditions
use Rattle.am_eval.proofs.SomeWay.{some_way-literal, some_way-front}
use Rattle.am_first_sets.specs.declared.route_cubes.Kin.TheVariants.{EarlierSiblings, Children}
use Rattle.am_first_sets.specs.declared.route_cubes.RouteCubes.{RouteCubes}
use Rattle.am_first_sets.specs.declared.route_cubes.RouteCubes.TheViews.{out-RouteCubes}
use Rattle.am_first_sets.specs.ChoiceEnds.{is_end_at}
use Rattle.am_first_sets.specs.Meeting.{all_match, meets_cubes}
use Rattle.am_first_sets.specs.Solving.{avoids}
use Rattle.am_first_sets.specs.RouteCubes.{AreCubesOf, AreCubesOfEach, none_stops}
use Rattle.am_first_sets.specs.RouteCubes.{gets_past, goes_into, reaches_by, ends_by}
use Rattle.am_first_sets.proofs.CubeTruth.{matches_where}

-- ---- One more route.

pushed : (u : List Label) (choice : List ℕ) (ts : List RouteTree) (rs : List RouteCubes)
    (t : RouteTree) (r : RouteCubes)
    → AreCubesOfEach u choice (routes_of ts) rs → AreCubesOf u choice t r
    → AreCubesOfEach u choice (routes_of (ts ++ t ∷ [])) (rs ++ r ∷ [])
pushed u choice [] [] t r are is = (is, tt)
pushed u choice (s ∷ ts) (q ∷ rs) t r are is = (are.0, pushed u choice ts rs t r are.1 is)
pushed u choice ts rs t r are is = absurd are

pub one_more : (u : List Label) (choice : List ℕ) (routes : List Route) (i : ℕ) (next : Route)
    (cubes : List RouteCubes) (r : RouteCubes) (more : List RouteCubes)
    → i < length routes → next ≡ get_or routes i next → more ≡ cubes ++ r ∷ []
    → AreCubesOfEach u choice (routes_of (map route_view (take i routes))) cubes
    → AreCubesOf u choice (route_view next) r
    → AreCubesOfEach u choice (routes_of (map route_view (take (i + 1) routes))) more
one_more u choice routes i next cubes r more lt is adds are also =
    let so_far = map route_view (take i routes) in
    let longer : so_far ++ route_view next ∷ [] ≡ map route_view (take (i + 1) routes) =
    sym (map_more route_view routes i next lt ∙ ap (λ q. so_far ++ route_view q ∷ []) (sym is)) in
    subst (AreCubesOfEach u choice (routes_of (map route_view (take (i + 1) routes)))) (sym adds)
    (subst (λ (ts : List RouteTree). AreCubesOfEach u choice (routes_of ts) (cubes ++ r ∷ [])) longer
    (pushed u choice so_far cubes (route_view next) r are also))

-- ---- By cubes and by conditions.

pub or_false : (b : Bool) → (b || false) ≡ b
or_false true = refl
or_false false = refl

-- with tests of cubes that agree with a test of literals, at a prefix or a choice
module _ (u : List Label) (prefix : List ℕ) (matched unmatched : MaskedLabels → Bool)
    (holds : Literal → Bool)
    (is : (cube : MaskedLabels) (ms : List Matcher)
    → verdict_at cube prefix ≡ verdict_of_list u ms prefix
    → (matched cube ≡ holds (matching ms)) × (unmatched cube ≡ holds (not_matching ms))) where
  none_matched : (ts : Routes) (rs : List RouteCubes) → AreCubesOfEach u prefix ts rs
      → list_all (λ r. unmatched (out-RouteCubes r).cube) rs
      ≡ list_all holds (map (λ t. not_matching (matchers_of t)) (list_of ts))
  none_matched no_routes [] are = refl
  none_matched (next_route (route settings children) ts) (r ∷ rs) are =
      λ i. (is (out-RouteCubes r).cube settings.matchers are.0.0).1 i
      && none_matched ts rs are.1 i
  none_matched ts rs are = absurd are

  -- those with `continue` do not count
  one_past : (t : RouteTree) (ts : List RouteTree) (continues passes later : Bool)
      → continues_of t ≡ continues → passes ≡ holds (not_matching (matchers_of t))
      → later ≡ list_all holds (stopped_by_none ts)
      → ((continues || passes) && later) ≡ list_all holds (stopped_by_none (t ∷ ts))
  one_past t ts true passes later goes here more = rw goes more
  one_past t ts false passes later goes here more = rw goes (λ i. here i && more i)

  all_past : (ts : Routes) (rs : List RouteCubes) (p : ℕ) → AreCubesOfEach u prefix ts rs
      → list_all (gets_past matched unmatched) (take p rs)
      ≡ list_all holds (stopped_by_none (take p (list_of ts)))
  all_past no_routes [] zero are = refl
  all_past no_routes [] (suc p) are = refl
  all_past (next_route t ts) (r ∷ rs) zero are = refl
  all_past (next_route (route settings children) ts) (r ∷ rs) (suc p) are =
      one_past (route settings children) (take p (list_of ts)) (out-RouteCubes r).continues
      (unmatched (out-RouteCubes r).cube) (list_all (gets_past matched unmatched) (take p rs))
      (sym are.0.1) (is (out-RouteCubes r).cube settings.matchers are.0.0).1
      (all_past ts rs p are.1)
  all_past ts rs p are = absurd are

  -- what goes on below a route, and what goes into it
  abbrev GoesBelow : Reach → List ℕ → RouteTree → RouteCubes → Type 0
  GoesBelow reach path t r =
      reaches_by matched unmatched reach r path ≡ some_way_holds holds (ways_below reach t path)

  from_below : (reach : Reach) (path : List ℕ) (t : RouteTree) (r : RouteCubes)
      → AreCubesOf u prefix t r → GoesBelow reach path t r
      → (matched (out-RouteCubes r).cube && reaches_by matched unmatched reach r path)
      ≡ some_way_holds holds (ways_into (λ child. ways_below reach child path) (Some t))
  from_below reach path (route settings children) r are below =
      (λ i. (is (out-RouteCubes r).cube settings.matchers are.0).0 i && below i)
      ∙ sym (some_way-literal holds (matching settings.matchers)
      (ways_below reach (route settings children) path))

  into_child : (reach : Reach) (path : List ℕ) (ts : Routes) (rs : List RouteCubes) (p : ℕ)
      → AreCubesOfEach u prefix ts rs
      → ((t : RouteTree) (r : RouteCubes) → AreCubesOf u prefix t r → GoesBelow reach path t r)
      → goes_into matched unmatched (λ child. reaches_by matched unmatched reach child path)
      (slice_get rs p) ≡ some_way_holds holds
      (ways_into (λ child. ways_below reach child path) (slice_get (list_of ts) p))
  into_child reach path no_routes [] p are below = refl
  into_child reach path (next_route t ts) (r ∷ rs) zero are below =
      from_below reach path t r are.0 (below t r are.0)
  into_child reach path (next_route t ts) (r ∷ rs) (suc p) are below =
      into_child reach path ts rs p are.1 below
  into_child reach path ts rs p are below = absurd are

  goes_below : (reach : Reach) (path : List ℕ) (t : RouteTree) (r : RouteCubes)
      → AreCubesOf u prefix t r → GoesBelow reach path t r
  goes_below Enters [] t r are = refl
  goes_below Ends [] (route settings children) r are =
      none_matched children (out-RouteCubes r).routes.items are.3
      ∙ sym (or_false (list_all holds (no_child_of (route settings children))))
  goes_below reach (p ∷ path) (route settings children) r are =
      let rs = (out-RouteCubes r).routes.items in
      (λ i. all_past children rs p are.3 i && into_child reach path children rs p are.3
      (λ t r is. goes_below reach path t r is) i)
      ∙ sym (some_way-front holds (stopped_by_none (take p (list_of children)))
      (ways_into (λ child. ways_below reach child path) (slice_get (list_of children) p)))

  -- into a route, and then down to the one at a path
  pub into_as : (reach : Reach) (path : List ℕ) (t : RouteTree) (r : RouteCubes)
      → AreCubesOf u prefix t r
      → (matched (out-RouteCubes r).cube && reaches_by matched unmatched reach r path)
      ≡ some_way_holds holds (ways_into (λ child. ways_below reach child path) (Some t))
  into_as reach path t r are =
      from_below reach path t r are (goes_below reach path t r are)

-- ---- The ends of a choice.

-- a world with a configuration alone
abbrev world_of : Configuration → World
world_of config = record { config = config; silences = []; alerts = []; instant = None }

-- the cubes of the routes say where a whole choice ends
pub ends_as : (u : List Label) (c : Configuration) (routes : RouteCubes) (path choice : List ℕ)
    → IsWhole (sizes u) choice → AreCubesOf u choice c.root routes
    → (matches (out-RouteCubes routes).cube choice && ends_by choice routes path)
    ≡ is_end_at u c path choice
ends_as u c routes path choice whole are =
    into_as u choice (λ cube. matches cube choice) (λ cube. not (matches cube choice))
    (literal_holds (label_set_of u choice))
    (λ cube ms same.
    let is = matches_where u choice whole ms cube same in (is, ap not is))
    Ends path c.root routes are
    ∙ sym (conditions.exactly (world_of c) (label_set_of u choice) (question.Route Ends path))

-- what is left of a path
pub left_of_path : (path : List ℕ) (i p : ℕ) → i < length path → p ≡ get_or path i 0
    → drop i path ≡ p ∷ drop (i + 1) path
left_of_path path i p within is = rw (is, add-one, drop-cons path i 0 within) refl

-- ---- The way down, step by step.

in_order : (first others unwanted wanted rest : Bool)
    → (((first && wanted) && (others && unwanted)) && rest)
    ≡ ((first && others) && (unwanted && (wanted && rest)))
in_order true true true false rest = refl
in_order true true false false rest = refl
in_order true false unwanted false rest = refl
in_order first others unwanted wanted rest = refl

and_in : (a b c : Bool) → (a && (b && c)) ≡ ((a && b) && c)
and_in true b c = refl
and_in false b c = refl

module _ (choice : List ℕ) where
  -- a choice ends there if the cubes so far let it pass and it gets down the rest of the path
  abbrev pub on_way : List (Bor MaskedLabels) → List (Bor MaskedLabels) → RouteCubes → List ℕ
      → Bool
  on_way wanted unwanted r left = meets_cubes wanted unwanted choice && ends_by choice r left

  pub begun : (path : List ℕ) (r : RouteCubes) (none wanted unwanted : List (Bor MaskedLabels))
      (ref : Bor MaskedLabels) → ref.now ≡ (out-RouteCubes r).cube → none ≡ []
      → wanted ≡ none ++ ref ∷ [] → unwanted ≡ []
      → on_way wanted unwanted r path
      ≡ (matches (out-RouteCubes r).cube choice && ends_by choice r path)
  begun path r none wanted unwanted ref is empty adds no_more =
      let top = matches ref.now choice in
      let first = adds ∙ ap (λ refs. refs ++ ref ∷ []) empty in
      ap (λ b. b && ends_by choice r path)
      ((λ i. meets_cubes (first i) (no_more i) choice) ∙ and_true (top && true) ∙ and_true top
      ∙ ap (λ (cube : MaskedLabels). matches cube choice) is)

  module _ (end : Bool) (r : RouteCubes) (wanted unwanted : List (Bor MaskedLabels))
      (left : List ℕ) (on : on_way wanted unwanted r left ≡ end) (rs : List RouteCubes)
      (same : rs ≡ (out-RouteCubes r).routes.items) where
    abbrev first : Bool
    first = all_match wanted choice

    abbrev others : Bool
    others = avoids unwanted choice

    abbrev into : List ℕ → Option RouteCubes → Bool
    into rest o =
        goes_into (λ cube. matches cube choice) (λ cube. not (matches cube choice))
        (λ child. ends_by choice child rest) o

    down : (p : ℕ) (rest : List ℕ) (o : Option RouteCubes) → left ≡ p ∷ rest → slice_get rs p ≡ o
        → ((first && others) && (none_stops EarlierSiblings choice (take p rs) && into rest o)) ≡ end
    down p rest o goes there =
        ap (λ b. (first && others) && b)
        (sym (ap (ends_by choice r) goes
        ∙ (λ i. none_stops EarlierSiblings choice (take p (sym same i))
        && into rest ((ap (λ xs. slice_get xs p) (sym same) ∙ there) i))))
        ∙ on

    pub one_step : (longer more : List (Bor MaskedLabels)) (ref : Bor MaskedLabels) (p : ℕ)
        (rest : List ℕ) (child : RouteCubes) → left ≡ p ∷ rest → slice_get rs p ≡ Some child
        → ref.now ≡ (out-RouteCubes child).cube → longer ≡ wanted ++ ref ∷ []
        → avoids more choice ≡ (others && none_stops EarlierSiblings choice (take p rs))
        → on_way longer more child rest ≡ end
    one_step longer more ref p rest child goes there is adds also_none =
        let matched = matches (out-RouteCubes child).cube choice in
        let also : all_match longer choice ≡ (first && matched) =
        ap (λ (cubes : List (Bor MaskedLabels)). all_match cubes choice) adds
        ∙ list_all-append (λ (cube : Bor MaskedLabels). matches cube.now choice) wanted (ref ∷ [])
        ∙ ap (λ b. first && b) (and_true (matches ref.now choice)
        ∙ ap (λ (cube : MaskedLabels). matches cube choice) is) in
        (λ i. (also i && also_none i) && ends_by choice child rest)
        ∙ in_order first others (none_stops EarlierSiblings choice (take p rs)) matched
        (ends_by choice child rest)
        ∙ down p rest (Some child) goes there

    pub last_step : (more : List (Bor MaskedLabels)) → left ≡ []
        → avoids more choice ≡ (others && none_stops Children choice rs)
        → meets_cubes wanted more choice ≡ end
    last_step more ends also_none =
        ap (λ b. first && b) also_none ∙ and_in first others (none_stops Children choice rs)
        ∙ ap (λ b. (first && others) && b)
        (ap (none_stops Children choice) same ∙ sym (ap (ends_by choice r) ends))
        ∙ on

    pub no_step : (p : ℕ) (rest : List ℕ) → left ≡ p ∷ rest → length rs ≤ p → false ≡ end
    no_step p rest goes past =
        sym (ap (λ b. (first && others) && b)
        (and_right (none_stops EarlierSiblings choice (take p rs)) false refl)
        ∙ and_right (first && others) false refl)
        ∙ down p rest None goes (slice_get_past rs p past)
