-- Alerts that go the same way have the same outcome.
use Rattle.std.proofs.Common.{◌≡◌, ℕ, ◌+◌, Bool, true, false, cond, List, [], ◌∷◌, ◌++◌, map}
use Rattle.std.proofs.Common.{append_assoc, refl, ap, sym, ◌∙◌}
use Rattle.std.specs.Prelude.{not, ◌&&◌, ◌||◌}
use Rattle.std.specs.List.{AllByRecursion, filter_map, flat_map}
use Rattle.am_universe.specs.LabelSet.{LabelMap}
use Rattle.am_labels.specs.Matcher.{Matcher, all_hold}
use Rattle.am_config.specs.ConfigFile.{Configuration, RouteTree, Routes, route, no_routes}
use Rattle.am_config.specs.ConfigFile.{next_route, matchers_of, continues_of, options_of}
use Rattle.am_config.specs.Path.{route_at}
use Rattle.am_eval.specs.Routing.{Child, ends_at, children_seen, ends_tried, tried, or_own_path}
use Rattle.am_eval.specs.Routing.{is_last, receiver_at, ends}
use Rattle.am_differences.specs.Options.{differing_options}
use Rattle.am_outcomes.specs.Configurations.{Configurations, One, Pair, Silenced, Ends, Matched}
use Rattle.am_outcomes.specs.Configurations.{matchers_of_each, tried_of}
use Rattle.am_outcomes.specs.Handling.{route_pairs}
use Rattle.am_outcomes.specs.Outcomes.{is_silenced_by, one_if, outcome_of}
use Rattle.am_outcomes.specs.Ways.{way_at, child_way, routes_way, list_way, way}

-- the ends at the children behind one, which may be the last that is tried
abbrev ends_behind : Bool → List Child → List (List ℕ)
ends_behind last cs = flat_map (λ c. c.ends) (cond last [] (tried cs))

-- the outcome by the ends, and by whether the alert is silenced
abbrev one_outcome : Configuration → List (List ℕ) → List (List ℕ)
one_outcome c paths = filter_map (receiver_at c) paths ∷ []

abbrev two_outcomes :
    Configuration → Configuration → List (List ℕ) → List (List ℕ) → List (List ℕ)
two_outcomes old new before after =
    filter_map (receiver_at old) before ∷ filter_map (receiver_at new) after
    ∷ differing_options (map (λ p. (options_of p.0, options_of p.1))
    (route_pairs old new (filter_map (route_at old.root) before)
    (filter_map (route_at new.root) after)))
    ∷ []

abbrev silenced_outcome : Configuration → List (List ℕ) → Bool → List (List ℕ)
silenced_outcome c paths silenced =
    filter_map (receiver_at c) paths ∷ one_if silenced ∷ []

abbrev ends_outcome : Configuration → List (List ℕ) → List (List ℕ)
ends_outcome c paths = filter_map (receiver_at c) paths ∷ paths

module _ (s z : LabelMap) where
  -- the route is matched by both or by neither, what follows its way is the same, and so are its
  -- ends
  abbrev IsSame : RouteTree → List Bool → List Bool → Type 0
  IsSame t x y =
      (all_hold s (matchers_of t) ≡ all_hold z (matchers_of t)) × (x ≡ y)
      × (ends_at s t ≡ ends_at z t)

  abbrev AreSame : Routes → List Bool → List Bool → Type 0
  AreSame ts x y =
      (x ≡ y) × ((i : ℕ) → ends_tried (children_seen s i ts) ≡ ends_tried (children_seen z i ts))

  one_route : (ts : Routes) (a b : Bool) (x y : List Bool)
      → ((x y : List Bool) → child_way s ts ++ x ≡ child_way z ts ++ y → AreSame ts x y)
      → (a ∷ cond a (child_way s ts) []) ++ x ≡ (b ∷ cond b (child_way z ts) []) ++ y
      → (a ≡ b) × (x ≡ y) × (cond a (or_own_path (ends_tried (children_seen s 0 ts))) []
      ≡ cond b (or_own_path (ends_tried (children_seen z 0 ts))) [])
  one_route ts true true x y below e =
      let rest : child_way s ts ++ x ≡ child_way z ts ++ y = cc in
      let r = below x y rest in (refl, r.0, ap or_own_path (r.1 0))
  one_route ts false false x y below e =
      let rest : x ≡ y = cc in (refl, rest, refl)
  one_route ts true false x y below e = absurd cc
  one_route ts false true x y below e = absurd cc

  -- behind a child
  behind : (ts : Routes) (a b continues : Bool) (x y : List Bool) → a ≡ b
      → ((x y : List Bool) → child_way s ts ++ x ≡ child_way z ts ++ y → AreSame ts x y)
      → cond (a && not continues) [] (child_way s ts) ++ x
      ≡ cond (b && not continues) [] (child_way z ts) ++ y
      → (x ≡ y) × ((i : ℕ) → ends_behind (a && not continues) (children_seen s i ts)
      ≡ ends_behind (b && not continues) (children_seen z i ts))
  behind ts true true true x y same later e = later x y e
  behind ts true true false x y same later e = (e, λ i. refl)
  behind ts false false continues x y same later e = later x y e
  behind ts true false continues x y same later e = absurd cc
  behind ts false true continues x y same later e = absurd cc

  mutual
    same_at : (t : RouteTree) (x y : List Bool) → way_at s t ++ x ≡ way_at z t ++ y → IsSame t x y
    same_at (route settings children) x y e =
        one_route children (all_hold s settings.matchers) (all_hold z settings.matchers) x y
        (λ v w same. same_below children v w same) e

    same_below : (ts : Routes) (x y : List Bool) → child_way s ts ++ x ≡ child_way z ts ++ y
        → AreSame ts x y
    same_below no_routes x y e = (e, λ i. refl)
    same_below (next_route t ts) x y e =
        let one = same_at t (cond (is_last s t) [] (child_way s ts) ++ x)
        (cond (is_last z t) [] (child_way z ts) ++ y)
        (sym (append_assoc (way_at s t) (cond (is_last s t) [] (child_way s ts)) x) ∙ e
        ∙ append_assoc (way_at z t) (cond (is_last z t) [] (child_way z ts)) y) in
        let later = behind ts (all_hold s (matchers_of t)) (all_hold z (matchers_of t))
        (continues_of t) x y one.0 (λ v w same. same_below ts v w same) one.1 in
        (later.0, λ i j. map (λ path. i ∷ path) (one.2 j) ++ later.1 (i + 1) j)

  -- the ends under each of some configurations are the same
  abbrev HaveSameEnds : List Configuration → Type 0
  HaveSameEnds cs = AllByRecursion (λ c. ends s c ≡ ends z c) cs

  -- and so is what follows the ways through them
  same_ends : (cs : List Configuration) (x y : List Bool)
      → routes_way s cs ++ x ≡ routes_way z cs ++ y → HaveSameEnds cs × (x ≡ y)
  same_ends [] x y e = (tt, e)
  same_ends (c ∷ cs) x y e =
      let one = same_at c.root (routes_way s cs ++ x) (routes_way z cs ++ y)
      (sym (append_assoc (way_at s c.root) (routes_way s cs) x) ∙ e
      ∙ append_assoc (way_at z c.root) (routes_way z cs) y) in
      let later = same_ends cs x y one.1 in ((one.2, later.0), later.1)

  -- the first list matches both, or neither
  one_first : (a b : Bool) (x y : List Bool) → a ∷ x ≡ b ∷ y → a ≡ b
  one_first a b x y e = cc

  -- some silence matches both, or none matches either
  one_list : (a b c d : Bool) (x y : List Bool) → (x ≡ y → c ≡ d)
      → a ∷ cond a [] x ≡ b ∷ cond b [] y → (a || c) ≡ (b || d)
  one_list true true c d x y later e = refl
  one_list false false c d x y later e = let rest : x ≡ y = cc in later rest
  one_list true false c d x y later e = absurd cc
  one_list false true c d x y later e = absurd cc

  same_silenced : (silences : List (ℕ × List Matcher))
      → list_way s (matchers_of_each silences) ≡ list_way z (matchers_of_each silences)
      → is_silenced_by s silences ≡ is_silenced_by z silences
  same_silenced [] e = refl
  same_silenced (silence ∷ silences) e =
      one_list (all_hold s silence.1) (all_hold z silence.1) (is_silenced_by s silences)
      (is_silenced_by z silences) (list_way s (matchers_of_each silences))
      (list_way z (matchers_of_each silences)) (same_silenced silences) e

  pub same_on_way : (k : Configurations) → way s (tried_of k) ≡ way z (tried_of k)
      → outcome_of k s ≡ outcome_of k z
  same_on_way (One c) e = ap (one_outcome c) (same_ends (c ∷ []) [] [] e).0.0
  same_on_way (Pair old new) e =
      let same = (same_ends (old ∷ new ∷ []) [] [] e).0 in
      λ j. two_outcomes old new (same.0 j) (same.1.0 j)
  same_on_way (Silenced c silences) e =
      let same = same_ends (c ∷ []) (list_way s (matchers_of_each silences))
      (list_way z (matchers_of_each silences)) e in
      let silenced = same_silenced silences same.1 in
      λ j. silenced_outcome c (same.0.0 j) (silenced j)
  same_on_way (Ends c) e = ap (ends_outcome c) (same_ends (c ∷ []) [] [] e).0.0
  same_on_way (Matched ms) e =
      ap (λ matched. one_if matched ∷ [])
      (one_first (all_hold s ms) (all_hold z ms) (cond (all_hold s ms) [] [])
      (cond (all_hold z ms) [] []) e)
