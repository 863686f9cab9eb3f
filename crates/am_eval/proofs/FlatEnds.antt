-- An alert ends at a path exactly if it matches each route on the way, no sibling before one of
-- them stops it, and it matches no child of the last. And its ends are in order.
use Rattle.std.proofs.Common.{◌≡◌, ◌≢◌, ◌↔◌, ◌⊎◌, inl, inr, ℕ, zero, suc, ◌+◌, List, [], ◌∷◌, ◌++◌}
use Rattle.std.proofs.Common.{map, Some, Bool, true, false, cond, refl, sym, ap, subst, ◌∙◌, arith}
use Rattle.std.proofs.Common.{take, Contains, ◌≤◌}
use Rattle.std.specs.Ordering.{nat_cmp}
use Rattle.std.specs.Cmp.Lexicographic.{slice_cmp}
use Rattle.std.specs.List.Sorted.{IsStrictlySortedBy}
use Rattle.std.specs.Prelude.{slice_get, IsTrue, IsFalse}
use Rattle.std.specs.List.{AllByRecursion, flat_map}
use Rattle.std.proofs.lemmas.Bool.{false_from_ne_true, both_ways}
use Rattle.std.proofs.lemmas.Option.{same_Some}
use Rattle.std.proofs.lemmas.Grind.{common_steps}
use Rattle.am_universe.specs.LabelSet.{LabelMap}
use Rattle.am_universe.proofs.ListLemmas.{IsIn, IsIn-from_Contains, Contains-from_IsIn}
use Rattle.am_universe.proofs.ListLemmas.{IsIn-split, IsIn-unmap, IsIn-map, IsIn-left, IsIn-right}
use Rattle.am_universe.proofs.ListLemmas.{IsStrictlySortedBy-append, IsStrictlySortedBy-map}
use Rattle.am_universe.proofs.ListLemmas.{AllByRecursion-at}
use Rattle.am_universe.proofs.Members.{in_at}
use Rattle.am_universe.proofs.ChoiceLemmas.{same_first, less_first}
use Rattle.am_labels.specs.Matcher.{all_hold}
use Rattle.am_config.specs.ConfigFile.{RouteTree, Routes, route, no_routes, next_route, matchers_of}
use Rattle.am_config.specs.ConfigFile.{children_of, continues_of}
use Rattle.am_config.specs.Path.{list_of, route_at}
use Rattle.am_eval.specs.Routing.{Child, tried, ends_tried, or_own_path, ends_at, children_seen}
use Rattle.am_eval.specs.Routing.{is_last, EndsThere}
use Rattle.am_eval.proofs.ChildEnds.{is_last-unmatched}

-- none of the routes stops the alert
abbrev NoneStops : LabelMap → List RouteTree → Type 0
NoneStops s ts = AllByRecursion (λ t. IsFalse (is_last s t)) ts

-- a path of an end at or below a child that is tried
abbrev IsTriedBelow : LabelMap → ℕ → Routes → List ℕ → Type 0
IsTriedBelow s i ts path =
    (k : ℕ) × (t : RouteTree) × (rest : List ℕ) × (slice_get (list_of ts) k ≡ Some t)
    × (path ≡ (i + k) ∷ rest) × NoneStops s (take k (list_of ts)) × IsIn (ends_at s t) rest

behind : (s : LabelMap) (i : ℕ) (t : RouteTree) (ts : Routes) (path : List ℕ) → is_last s t ≡ false
    → IsTriedBelow s (i + 1) ts path → IsTriedBelow s i (next_route t ts) path
behind s i t ts path goes h =
    let at : (i + 1) + h.0 ≡ i + suc h.0 = omega arith in
    (suc h.0, h.1, h.2, h.3, h.4 ∙ ap (λ k. k ∷ h.2) at, (goes, h.5), h.6)

here : (s : LabelMap) (i : ℕ) (t : RouteTree) (ts : Routes) (path : List ℕ)
    → IsIn (map (λ below. i ∷ below) (ends_at s t)) path → IsTriedBelow s i (next_route t ts) path
here s i t ts path h = grind (arith, common_steps, IsIn-unmap)

-- after a route that stops the alert, no route is tried
not_stopped : (b : Bool) (cs : List Child) (path : List ℕ)
    → IsIn (flat_map (λ c. c.ends) (cond b [] cs)) path
    → (b ≡ false) × IsIn (flat_map (λ c. c.ends) cs) path
not_stopped true cs path h = absurd h
not_stopped false cs path h = (refl, h)

is_tried : (s : LabelMap) (i : ℕ) (ts : Routes) (path : List ℕ)
    → IsIn (ends_tried (children_seen s i ts)) path → IsTriedBelow s i ts path
is_tried s i no_routes path h = absurd h
is_tried s i (next_route t ts) path h =
    grind (arith, common_steps, IsIn-split, here, not_stopped, behind, is_tried s (i + 1) ts path)

-- and an end at or below a child is among all ends, if no route before the child stops the alert
is_found : (s : LabelMap) (i k : ℕ) (ts : Routes) (t : RouteTree) (rest : List ℕ)
    → slice_get (list_of ts) k ≡ Some t → NoneStops s (take k (list_of ts))
    → IsIn (ends_at s t) rest → IsIn (ends_tried (children_seen s i ts)) ((i + k) ∷ rest)
is_found s i k no_routes t rest e none h = absurd (cc)
is_found s i zero (next_route u ts) t rest e none h =
    let same : t ≡ u = cc in
    let at : i ≡ i + 0 = omega arith in
    let mapped = IsIn-map (λ below. i ∷ below) (ends_at s u) rest
    (subst (λ (x : RouteTree). IsIn (ends_at s x) rest) same h) in
    grind (arith, common_steps, IsIn-left)
is_found s i (suc k) (next_route u ts) t rest e none h =
    grind (arith, common_steps, is_found s (i + 1) k ts t rest e, IsIn-right)

among_all : (all : List (List ℕ)) (path : List ℕ) → IsIn all path → IsIn (or_own_path all) path
among_all [] path h = absurd h
among_all (x ∷ xs) path h = h

where_matched : (b : Bool) (all : List (List ℕ)) (path : List ℕ)
    → IsIn (cond b (or_own_path all) []) path → (b ≡ true) × IsIn (or_own_path all) path
where_matched true all path h = (refl, h)
where_matched false all path h = absurd h

itself_or_below : (all : List (List ℕ)) (path : List ℕ) → IsIn (or_own_path all) path
    → ([] ≡ path) ⊎ IsIn all path
itself_or_below [] path (inl e) = inl e
itself_or_below [] path (inr h) = absurd h
itself_or_below (x ∷ xs) path h = inr h

some_matched : (b : Bool) (all : List (List ℕ)) → b ≡ true → cond b (or_own_path all) [] ≢ []
some_matched true [] e h = cc
some_matched true (x ∷ xs) e h = cc
some_matched false all e h = cc

pub matched_ends : (s : LabelMap) (t : RouteTree) → IsTrue (all_hold s (matchers_of t))
    → ends_at s t ≢ []
matched_ends s (route settings children) h =
    some_matched (all_hold s settings.matchers) (ends_tried (children_seen s 0 children)) h

-- ---- A route handles an alert itself where none of its children matches it.

-- none of the routes matches
abbrev NoneMatches : LabelMap → List RouteTree → Type 0
NoneMatches s ts = AllByRecursion (λ t. IsFalse (all_hold s (matchers_of t))) ts

no_first : (xs ys : List (List ℕ)) → xs ++ ys ≡ [] → (xs ≡ []) × (ys ≡ [])
no_first [] ys e = (refl, e)
no_first (x ∷ xs) ys e = absurd (cc)

no_end : (s : LabelMap) (t : RouteTree) → ends_at s t ≡ [] → all_hold s (matchers_of t) ≡ false
no_end s t e = false_from_ne_true (all_hold s (matchers_of t)) (λ h. matched_ends s t h e)

none_matches : (s : LabelMap) (i : ℕ) (ts : Routes) → ends_tried (children_seen s i ts) ≡ []
    → NoneMatches s (list_of ts)
none_matches s i no_routes e = tt
none_matches s i (next_route t ts) e =
    grind (arith, common_steps, no_first, no_end, is_last-unmatched, none_matches s (i + 1) ts)

none_tried : (s : LabelMap) (i : ℕ) (ts : Routes) → NoneMatches s (list_of ts)
    → ends_tried (children_seen s i ts) ≡ []
none_tried s i no_routes h = refl
none_tried s i (next_route t ts) h =
    grind (arith, common_steps, is_last-unmatched, none_tried s (i + 1) ts)

not_below : (s : LabelMap) (ts : Routes) → IsIn (ends_tried (children_seen s 0 ts)) [] → ⊥
not_below s ts h = let b = is_tried s 0 ts [] h in let e = b.4 in cc

handles : (s : LabelMap) (t : RouteTree) → IsIn (ends_at s t) []
    → IsTrue (all_hold s (matchers_of t)) × NoneMatches s (list_of (children_of t))
handles s (route settings children) h = grind (arith, common_steps, where_matched, none_matches, not_below)

is_handled : (s : LabelMap) (t : RouteTree) → IsTrue (all_hold s (matchers_of t))
    → NoneMatches s (list_of (children_of t)) → IsIn (ends_at s t) []
is_handled s (route settings children) matched none =
    rw (matched, none_tried s 0 children none) (inl refl)

-- ---- Down to the end.

at_child : (s : LabelMap) (t : RouteTree) (children : Routes) (p k : ℕ) (path rest : List ℕ)
    → slice_get (list_of children) k ≡ Some t → p ∷ path ≡ k ∷ rest
    → NoneStops s (take k (list_of children)) → IsIn (ends_at s t) rest
    → (IsIn (ends_at s t) path → EndsThere s t path)
    → (child : RouteTree) × (slice_get (list_of children) p ≡ Some child)
    × NoneStops s (take p (list_of children)) × EndsThere s child path
at_child s t children p k path rest child e none h below = grind (arith, common_steps)

ends_there : (s : LabelMap) (t : RouteTree) (path : List ℕ) → IsIn (ends_at s t) path
    → EndsThere s t path
ends_there s t [] h = handles s t h
ends_there s (route settings children) (p ∷ path) h =
    let all = ends_tried (children_seen s 0 children) in
    let m = where_matched (all_hold s settings.matchers) all (p ∷ path) h in
    elim (itself_or_below all (p ∷ path) m.1) [
      | inl e ↦ absurd (cc)
      | inr a ↦
          let b = is_tried s 0 children (p ∷ path) a in
          let at : 0 + b.0 ≡ b.0 = omega arith in
          let c = at_child s b.1 children p b.0 path b.2 b.3 (b.4 ∙ ap (λ k. k ∷ b.2) at) b.5 b.6
          (ends_there s b.1 path) in
          (m.0, c.0, c.1, c.2, c.3)
    ]

there_ends : (s : LabelMap) (t : RouteTree) (path : List ℕ) → EndsThere s t path
    → IsIn (ends_at s t) path
there_ends s t [] h = is_handled s t h.0 h.1
there_ends s (route settings children) (p ∷ path) h =
    let all = ends_tried (children_seen s 0 children) in
    let at : 0 + p ≡ p = omega arith in
    let found : IsIn all (p ∷ path) =
    subst (λ (n : ℕ). IsIn all (n ∷ path)) at
    (is_found s 0 p children h.1 path h.2 h.3 (there_ends s h.1 path h.4)) in
    rw h.0 (among_all all (p ∷ path) found)

pub ends_exactly : (s : LabelMap) (t : RouteTree) (path : List ℕ)
    → (Contains (ends_at s t) path ↔ EndsThere s t path)
ends_exactly s t path = grind (arith, common_steps, ends_there, IsIn-from_Contains, Contains-from_IsIn, there_ends)

-- ---- Without `continue` there is one end.

matches_first : (s : LabelMap) (t : RouteTree) (path : List ℕ) → EndsThere s t path
    → IsTrue (all_hold s (matchers_of t))
matches_first s t [] h = h.0
matches_first s t (p ∷ path) h = h.0

not_both : (s : LabelMap) (t : RouteTree) (p : ℕ) (path : List ℕ) → EndsThere s t []
    → EndsThere s t (p ∷ path) → ⊥
not_both s t p path h k =
    both_ways (all_hold s (matchers_of k.1))
    (AllByRecursion-at (λ child. IsFalse (all_hold s (matchers_of child))) (list_of (children_of t))
    k.1 h.1 (in_at (list_of (children_of t)) p k.1 k.2))
    (matches_first s k.1 path k.4)

-- a child that matches and lacks `continue` does not stand before one that is tried
not_before : (s : LabelMap) (ts : List RouteTree) (p q : ℕ) (t : RouteTree)
    → slice_get ts p ≡ Some t → IsTrue (all_hold s (matchers_of t)) → IsFalse (continues_of t)
    → NoneStops s (take q ts) → q ≤ p
not_before s [] p q t at matches lacks none = absurd (cc)
not_before s (u ∷ ts) p zero t at matches lacks none = omega arith
not_before s (u ∷ ts) zero (suc q) t at matches lacks none = grind (arith, common_steps)
not_before s (u ∷ ts) (suc p) (suc q) t at matches lacks none =
    omega (arith, not_before s ts p q t at matches lacks none.1)

-- no route below has `continue`
abbrev NoneContinues : RouteTree → Type 0
NoneContinues t =
    (path : List ℕ) (below : RouteTree) → path ≢ [] → route_at t path ≡ Some below
    → IsFalse (continues_of below)

one_path : (s : LabelMap) (t : RouteTree) (p q : List ℕ) → NoneContinues t → EndsThere s t p
    → EndsThere s t q → p ≡ q
one_path s t [] [] none h k = refl
one_path s t [] (q ∷ qs) none h k = absurd (not_both s t q qs h k)
one_path s t (p ∷ ps) [] none h k = absurd (not_both s t p ps k h)
one_path s t (p ∷ ps) (q ∷ qs) none h k =
    let ts = list_of (children_of t) in
    let late = not_before s ts p q h.1 h.2 (matches_first s h.1 ps h.4)
    (none (p ∷ []) h.1 (λ e. cc) (rw h.2 refl)) k.3 in
    let early = not_before s ts q p k.1 k.2 (matches_first s k.1 qs k.4)
    (none (q ∷ []) k.1 (λ e. cc) (rw k.2 refl)) h.3 in
    let at : p ≡ q = omega (arith, late, early) in
    let same : h.1 ≡ k.1 = same_Some h.1 k.1 (sym h.2 ∙ ap (slice_get ts) at ∙ k.2) in
    let below = one_path s k.1 ps qs (λ path r some e. none (q ∷ path) r (λ n. cc) (rw k.2 e))
    (subst (λ (c : RouteTree). EndsThere s c ps) same h.4) k.4 in
    λ i. at i ∷ below i

pub one_end : (s : LabelMap) (t : RouteTree) (p q : List ℕ) → NoneContinues t
    → Contains (ends_at s t) p → Contains (ends_at s t) q → p ≡ q
one_end s t p q none h k =
    one_path s t p q none ((ends_exactly s t p).0 h) ((ends_exactly s t q).0 k)

-- ---- The ends are in order.

-- the paths are in strict order, as in a dictionary
abbrev Ascend : List (List ℕ) → Type 0
Ascend paths = IsStrictlySortedBy (slice_cmp nat_cmp) paths

-- paths below a position, followed by paths below later positions, ascend if both lists do
pub below_ascend : (i : ℕ) (first later : List (List ℕ)) → Ascend first → Ascend later
    → ((path : List ℕ) → IsIn later path
    → (k : ℕ) × (rest : List ℕ) × (path ≡ ((i + 1) + k) ∷ rest))
    → Ascend (map (λ below. i ∷ below) first ++ later)
below_ascend i first later s t beyond =
    grind (arith, common_steps, IsStrictlySortedBy-append, IsStrictlySortedBy-map, same_first, IsIn-unmap, less_first)

where_tried : (b : Bool) (cs : List Child) → Ascend (flat_map (λ c. c.ends) cs)
    → Ascend (flat_map (λ c. c.ends) (cond b [] cs))
unfolding IsStrictlySortedBy
where_tried true cs h = tt
where_tried false cs h = h

with_itself : (b : Bool) (all : List (List ℕ)) → Ascend all → Ascend (cond b (or_own_path all) [])
unfolding IsStrictlySortedBy
with_itself true [] h = (tt, tt)
with_itself true (x ∷ xs) h = h
with_itself false all h = tt

mutual
  unfolding IsStrictlySortedBy

  pub ends_ascend : (s : LabelMap) (t : RouteTree) → Ascend (ends_at s t)
  ends_ascend s (route settings children) =
      with_itself (all_hold s settings.matchers) (ends_tried (children_seen s 0 children))
      (tried_ascend s 0 children)

  tried_ascend : (s : LabelMap) (i : ℕ) (ts : Routes) → Ascend (ends_tried (children_seen s i ts))
  tried_ascend s i no_routes = tt
  tried_ascend s i (next_route t ts) =
      let later = tried (children_seen s (i + 1) ts) in
      below_ascend i (ends_at s t) (flat_map (λ c. c.ends) (cond (is_last s t) [] later))
      (ends_ascend s t) (where_tried (is_last s t) later (tried_ascend s (i + 1) ts))
      (λ y b.
      let more = is_tried s (i + 1) ts y (not_stopped (is_last s t) later y b).1 in
      (more.0, more.2, more.4))
