-- The lists of all routes and the ways to them say which routes a label set reaches.
use Rattle.std.proofs.Common.{◌≡◌, ◌≤◌, ◌<◌, ℕ, zero, suc, ◌+◌, ◌-◌, Bool, true, false, not, ◌&&◌, ◌||◌}
use Rattle.std.proofs.Common.{nat_lt, List, [], ◌∷◌, map, length, Some, Option, None, refl, sym, ap, ◌∙◌}
use Rattle.std.proofs.Common.{arith}
use Rattle.std.specs.Prelude.{slice_get, option_map, IsTrue}
use Rattle.std.specs.List.{list_all, list_any, range_with_len}
use Rattle.std.proofs.Math.Bool.{not-not}
use Rattle.std.proofs.lemmas.Bool.Decides.{nat_tests}
use Rattle.std.proofs.lemmas.Bool.{and_right}
use Rattle.std.proofs.lemmas.Option.{slice_get-map, slice_get_past}
use Rattle.am_universe.specs.Universe.{Label, sizes}
use Rattle.am_universe.specs.Choice.{admits}
use Rattle.am_universe.proofs.Members.{in_at}
use Rattle.am_config.specs.ConfigFile.{RouteTree, matchers_of, continues_of}
use Rattle.am_config.specs.RoutePaths.{all_routes}
use Rattle.am_config.proofs.RouteLists.{each_at}
use Rattle.am_judged_lists.specs.Cube.{MaskedLabels, verdict_at}
use Rattle.am_judged_lists.specs.Verdicts.{verdict_of_list}
use Rattle.am_judged_lists.specs.declared.certainty.Certainty.{Certainty}
use Rattle.am_judged_lists.specs.declared.cube_set.TheConstants.{MAX_CUBES}
use Rattle.am_judged_lists.specs.Certainty.{passes, other}
use Rattle.am_judged_lists.specs.CubeSetView.{contains, is_subset, are_apart}
use Rattle.am_judged_lists.specs.Places.{passes_if_there, is_at}
use Rattle.am_judged_lists.proofs.ListLemmas.{all_others, and_true, all_both}
use Rattle.am_judged_lists.proofs.BlockLemmas.{all_at}
use Rattle.am_eval.specs.declared.reach.Reach.{Reach}
use Rattle.am_eval.specs.declared.reach.Reach.TheVariants.{Ends, Enters}
use Rattle.am_eval.specs.Question.{Route}
use Rattle.am_eval.specs.World.{World}
use Rattle.am_eval.specs.Conditions.{Literal, matching, not_matching, ways_below}
use Rattle.am_eval.proofs.SomeWay.{some_way-literal}
use Rattle.am_search.specs.declared.verdict.Verdict.{Verdict}
use Rattle.am_plans.specs.declared.route_groups.Kin.{Kin}
use Rattle.am_plans.specs.declared.route_groups.Kin.TheVariants.{OnWay, Before, Child, Apart}
use Rattle.am_plans.specs.declared.route_lists.RouteLists.{RouteLists}
use Rattle.am_plans.specs.declared.route_lists.RouteWay.{RouteWay}
use Rattle.am_plans.specs.RouteGroups.{kin_of, is_on_way, is_before, is_child, stands_on_way}
use Rattle.am_plans.specs.RouteGroups.{stands_before, stands_below}
use Rattle.am_plans.specs.RoutesByWays.{enters_by, reaches_by, reached_at, passing_at, reaches_by_lists}
use Rattle.am_plans.specs.RoutesByWays.{IsWayTo, AreListsOfRoutes}
use Rattle.am_plans.specs.Verdicts.{verdict_of_literal, verdict_of_simple}
use Rattle.am_plans.specs.WorldByLists.{AreRoutes}
use Rattle.am_plans.proofs.Kleene.{passes_not, passes_simple}
use Rattle.am_plans.proofs.WayLemmas.{kin_itself, asked_of, asks, way_is}

-- ---- Tests of a set, and of the elements of a list.

row_of_list : {X : Type 0} (test : ℕ → Bool) (f : X → Bool) (first count : ℕ) (xs : List X)
    → length xs ≤ count
    → ((k : ℕ) (x : X) → slice_get xs k ≡ Some x → test (first + k) ≡ f x)
    → ((k : ℕ) → length xs ≤ k → test (first + k) ≡ true)
    → list_all test (range_with_len first count) ≡ list_all f xs
row_of_list test f first count [] few each past =
    all_others test first count (λ i low.
    let at : first + (i - first) ≡ i = omega (arith, low) in
    sym (ap test at) ∙ past (i - first) (omega arith))
row_of_list test f first zero (x ∷ xs) few each past = absurd (omega (arith, few))
row_of_list test f first (suc count) (x ∷ xs) few each past =
    let here : first + 0 ≡ first = omega arith in
    let next : (k : ℕ) → first + suc k ≡ (first + 1) + k = λ k. omega arith in
    let rest = row_of_list test f (first + 1) count xs (omega (arith, few))
    (λ k y at. sym (ap test (next k)) ∙ each (suc k) y at)
    (λ k beyond. sym (ap test (next k)) ∙ past (suc k) (omega (arith, beyond))) in
    λ j. (sym (ap test here) ∙ each 0 x refl) j && rest j

-- the places of some elements, and places at which another test passes
subset_list : {X : Type 0} (xs : List X) (a b : ℕ → Bool) (f g : X → Bool) → length xs ≤ MAX_CUBES
    → ((k : ℕ) → a k ≡ is_at f xs k) → ((k : ℕ) (x : X) → slice_get xs k ≡ Some x → b k ≡ g x)
    → is_subset a b ≡ list_all (λ x. not (f x) || g x) xs
unfolding is_subset
subset_list xs a b f g few same each =
    let from_zero : (k : ℕ) → 0 + k ≡ k = λ k. omega arith in
    row_of_list (λ k. not (a k) || b k) (λ x. not (f x) || g x) 0 MAX_CUBES xs few
    (λ k x at.
    ap (λ i. not (a i) || b i) (from_zero k)
    ∙ (λ j. not ((same k ∙ ap (passes_if_there f) at) j) || each k x at j))
    (λ k past.
    ap (λ i. not (a i) || b i) (from_zero k)
    ∙ ap (λ v. not v || b k) (same k ∙ ap (passes_if_there f) (slice_get_past xs k past)))

-- tests that agree wherever a set has room
same_in_row : (p q : ℕ → Bool) (first count : ℕ)
    → ((k : ℕ) → k < first + count → p k ≡ q k)
    → list_all p (range_with_len first count) ≡ list_all q (range_with_len first count)
same_in_row p q first zero same = refl
same_in_row p q first (suc count) same =
    let rest = same_in_row p q (first + 1) count (λ k h. same k (omega (arith, h))) in
    λ j. same first (omega arith) j && rest j

subset_same : (a b c : ℕ → Bool) → ((k : ℕ) → k < MAX_CUBES → b k ≡ c k) → is_subset a b ≡ is_subset a c
unfolding is_subset
subset_same a b c same =
    same_in_row (λ k. not (a k) || b k) (λ k. not (a k) || c k) 0 MAX_CUBES
    (λ k h. ap (λ v. not (a k) || v) (same k (omega (arith, h))))

pub apart_same : (a b c : ℕ → Bool) → ((k : ℕ) → k < MAX_CUBES → b k ≡ c k) → are_apart a b ≡ are_apart a c
apart_same a b c same = subset_same a (λ k. not (b k)) (λ k. not (c k)) (λ k h. ap not (same k h))

pub reached_same : (p q r s : ℕ → Bool) (reach : Reach) (ways : List RouteWay)
    → ((k : ℕ) → k < MAX_CUBES → p k ≡ r k) → ((k : ℕ) → k < MAX_CUBES → q k ≡ s k)
    → (k : ℕ) → k < MAX_CUBES → reached_at p q reach ways k ≡ reached_at r s reach ways k
reached_same p q r s reach ways passing matched k h =
    ap (λ test. passes_if_there test (slice_get ways k)) (λ j way. by reach way j)
  where
    enters : (way : RouteWay) → enters_by p q k way ≡ enters_by r s k way
    enters way =
        let on_way = subset_same (contains way.on_way) p r passing in
        let before = apart_same (contains way.before) q s matched in
        λ j. passing k h j && (on_way j && before j)

    by : (reach : Reach) (way : RouteWay) → reaches_by p q reach k way ≡ reaches_by r s reach k way
    by Enters way = enters way
    by Ends way =
        let children = apart_same (contains way.children) q s matched in
        λ j. enters way j && children j

-- one more place, which is in no set
pub none_more : (k i : ℕ) (at : Bool) → (k ≡ i → at ≡ false) → (nat_lt k i && at) ≡ (nat_lt k (i + 1) && at)
none_more k i at here = grind (arith, nat_tests, here)

-- all places
pub all_taken : (k i : ℕ) (at : Bool) → (i ≤ k → at ≡ false) → (nat_lt k i && at) ≡ at
all_taken k i at past = grind (arith, nat_tests, past)

pub map_twice : {X Y Z : Type 0} (f : Y → Z) (g : X → Y) (xs : List X) → map (λ x. f (g x)) xs ≡ map f (map g xs)
map_twice f g [] = refl
map_twice f g (x ∷ xs) = ap (λ zs. f (g x) ∷ zs) (map_twice f g xs)

some_of : {X : Type 0} (p q : X → Bool) (xs : List X)
    → not (list_all (λ x. not (p x) || not (q x)) xs) ≡ list_any (λ x. p x && q x) xs
some_of p q [] = refl
some_of p q (x ∷ xs) =
    one (p x) (q x) (list_all (λ x. not (p x) || not (q x)) xs) ∙ ap (λ b. (p x && q x) || b) (some_of p q xs)
  where
    one : (a b rest : Bool) → not ((not a || not b) && rest) ≡ ((a && b) || not rest)
    one true true rest = refl
    one true false rest = refl
    one false b rest = refl

through_map : {X Y : Type 0} (p : Y → Bool) (f : X → Y) (o : Option X)
    → passes_if_there (λ x. p (f x)) o ≡ passes_if_there p (option_map f o)
through_map p f None = refl
through_map p f (Some x) = refl

absorbed : (a b : Bool) → (b ≡ true → a ≡ true) → (a && b) ≡ b
absorbed a true h = and_true a ∙ h refl
absorbed a false h = and_right a false refl

-- ---- The way to a route.

module _ (holds : Literal → Bool) where
  enters_asked : (kin : Kin) (t : RouteTree)
      → ((not (is_on_way kin) || holds (matching (matchers_of t)))
      && (not (not (continues_of t) && is_before kin) || holds (not_matching (matchers_of t))))
      ≡ asked_of holds Enters kin t
  enters_asked OnWay t =
      ap (λ b. holds (matching (matchers_of t)) && (not b || holds (not_matching (matchers_of t))))
      (and_right (not (continues_of t)) false refl) ∙ and_true (holds (matching (matchers_of t)))
  enters_asked Before t =
      ap (λ b. not b || holds (not_matching (matchers_of t))) (and_true (not (continues_of t)))
      ∙ ap (λ b. b || holds (not_matching (matchers_of t))) (not-not (continues_of t))
  enters_asked Child t =
      ap (λ b. not b || holds (not_matching (matchers_of t))) (and_right (not (continues_of t)) false refl)
  enters_asked Apart t =
      ap (λ b. not b || holds (not_matching (matchers_of t))) (and_right (not (continues_of t)) false refl)

  ends_asked : (kin : Kin) (t : RouteTree)
      → (asked_of holds Enters kin t && (not (is_child kin) || holds (not_matching (matchers_of t))))
      ≡ asked_of holds Ends kin t
  ends_asked OnWay t = and_true (holds (matching (matchers_of t)))
  ends_asked Before t = and_true (continues_of t || holds (not_matching (matchers_of t)))
  ends_asked Child t = refl
  ends_asked Apart t = refl

module _ (u : List Label) (prefix : List ℕ) (admitted : IsTrue (admits (sizes u) prefix))
    (all : List (List ℕ × RouteTree)) (few : length all ≤ MAX_CUBES) (lists : RouteLists)
    (are : AreListsOfRoutes u all lists) (m : Certainty) where
  -- what a prefix says of a literal, and which lists pass
  abbrev says : Literal → Bool
  says l = passes m (verdict_of_literal u prefix l)

  abbrev passing : ℕ → Bool
  passing = passing_at prefix m lists.lists

  abbrev matched : ℕ → Bool
  matched = passing_at prefix (other m) lists.lists

  passes_where : (n : Certainty) (k : ℕ) (found : List ℕ × RouteTree) → slice_get all k ≡ Some found
      → passing_at prefix n lists.lists k ≡ passes n (verdict_of_list u (matchers_of found.1) prefix)
  passes_where n k found at =
      let by_cube : MaskedLabels → Verdict = λ cube. verdict_at cube prefix in
      let by_list : List ℕ × RouteTree → Verdict = λ x. verdict_of_list u (matchers_of x.1) prefix in
      through_map (passes n) by_cube (slice_get lists.lists k)
      ∙ ap (passes_if_there (passes n)) (sym (slice_get-map by_cube lists.lists k)
      ∙ ap (λ vs. slice_get vs k) (are.verdicts prefix admitted) ∙ slice_get-map by_list all k
      ∙ ap (option_map by_list) at)

  unmatched : (k : ℕ) (found : List ℕ × RouteTree) → slice_get all k ≡ Some found
      → not (matched k) ≡ says (not_matching (matchers_of found.1))
  unmatched k found at =
      ap not (passes_where (other m) k found at) ∙ sym (passes_not m (verdict_of_list u (matchers_of found.1) prefix))

  module _ (i : ℕ) (path : List ℕ) (t : RouteTree) (way : RouteWay)
      (at : slice_get all i ≡ Some (path, t)) (to : IsWayTo all path way) where
    own : list_all (asks says Enters path) all ≡ true → passing i ≡ true
    own e =
        passes_where m i (path, t) at ∙ ap (λ kin. asked_of says Enters kin t) (sym (kin_itself path))
        ∙ all_at (asks says Enters path) all i (path, t) e at

    enters : reaches_by passing matched Enters i way ≡ list_all (asks says Enters path) all
    enters =
        let on_way : List ℕ × RouteTree → Bool = λ x. not (stands_on_way path x) || says (matching (matchers_of x.1)) in
        let before : List ℕ × RouteTree → Bool = λ x. not (stands_before path x) || says (not_matching (matchers_of x.1)) in
        (λ j. passing i
        && (subset_list all (contains way.on_way) passing (stands_on_way path) (λ x. says (matching (matchers_of x.1))) few to.on_way (passes_where m) j
        && subset_list all (contains way.before) (λ k. not (matched k)) (stands_before path) (λ x. says (not_matching (matchers_of x.1))) few to.before unmatched j))
        ∙ ap (λ b. passing i && b) (sym (all_both on_way before all)
        ∙ (λ j. list_all (λ (x : List ℕ × RouteTree). enters_asked says (kin_of path x.0) x.1 j) all))
        ∙ absorbed (passing i) (list_all (asks says Enters path) all) own

    pub reaches : (reach : Reach) → reaches_by passing matched reach i way ≡ list_all (asks says reach path) all
    reaches Enters = enters
    reaches Ends =
        let child : List ℕ × RouteTree → Bool = λ x. not (stands_below path x) || says (not_matching (matchers_of x.1)) in
        (λ j. enters j
        && subset_list all (contains way.children) (λ k. not (matched k)) (stands_below path) (λ x. says (not_matching (matchers_of x.1))) few to.children unmatched j)
        ∙ sym (all_both (asks says Enters path) child all)
        ∙ (λ j. list_all (λ (x : List ℕ × RouteTree). ends_asked says (kin_of path x.0) x.1 j) all)

-- ---- The routes of a world.

module _ (u : List Label) (prefix : List ℕ) (admitted : IsTrue (admits (sizes u) prefix)) (w : World)
    (few : length (all_routes w.config) ≤ MAX_CUBES) (lists : RouteLists)
    (are : AreListsOfRoutes u (all_routes w.config) lists) where
  abbrev reaches_route : Certainty → Reach → List ℕ × RouteTree → Bool
  reaches_route m reach found = passes m (verdict_of_simple u w (Route reach found.0) prefix)

  reached_where : (m : Certainty) (reach : Reach) (i : ℕ) (found : List ℕ × RouteTree)
      → slice_get (all_routes w.config) i ≡ Some found
      → reached_at (passing_at prefix m lists.lists) (passing_at prefix (other m) lists.lists) reach lists.ways.items i
      ≡ reaches_route m reach found
  reached_where m reach i found at =
      let all = all_routes w.config in
      let root = w.config.root in
      let holds : Literal → Bool = λ l. passes m (verdict_of_literal u prefix l) in
      let matched = passing_at prefix (other m) lists.lists in
      let way = are.ways i found at in
      ap (passes_if_there (reaches_by (passing_at prefix m lists.lists) matched reach i)) way.1
      ∙ reaches u prefix admitted all few lists are m i found.0 found.1 way.0 at way.2 reach
      ∙ way_is holds reach [] found.0 root found.1 (each_at root [] root refl found (in_at all i found at))
      ∙ sym (some_way-literal holds (matching (matchers_of root)) (ways_below reach root found.0))
      ∙ sym (passes_simple m u w (Route reach found.0) prefix)

  pub are_routes : AreRoutes u w prefix (reaches_by_lists prefix lists)
  are_routes m reach routes chosen group =
      let all = all_routes w.config in
      let reached = reached_at (passing_at prefix m lists.lists) (passing_at prefix (other m) lists.lists) reach lists.ways.items in
      ap not (subset_list all (contains routes) (λ k. not (reached k)) chosen (λ x. not (reaches_route m reach x)) few group
      (λ k x at. ap not (reached_where m reach k x at)))
      ∙ some_of chosen (reaches_route m reach) all
