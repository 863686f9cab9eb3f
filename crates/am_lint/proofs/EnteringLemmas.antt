-- An alert enters the route at a path exactly if it matches each route on the way there, and none
-- of the siblings before these that lack `continue`. It ends there exactly if it also matches no
-- child of the route.
use Rattle.std.proofs.Common.{◌≡◌, ◌↔◌, inl, inr, ℕ, zero, suc, ◌<◌, List, [], ◌∷◌, take}
use Rattle.std.proofs.Common.{Some, Bool, true, false, not, refl, sym, ap, subst, ◌∙◌, arith, ◌+◌, length}
use Rattle.std.specs.Prelude.{IsTrue, IsFalse, slice_get, option_and_then, ◌==◌, ◌&&◌, nat_lt, ⊤}
use Rattle.std.specs.List.{AllByRecursion}
use Rattle.std.proofs.lemmas.Bool.{false≢true, both_ways, and_parts, and_from, cases_Bool}
use Rattle.std.proofs.lemmas.Bool.{lt-ltb, ltb-true, eqb-true, and_left, and_right}
use Rattle.std.proofs.lemmas.Option.{option_and_then_some, same_Some}
use Rattle.am_universe.specs.LabelSet.{LabelMap}
use Rattle.am_universe.proofs.ListLemmas.{AllByRecursion-at, Contains-from_IsIn}
use Rattle.am_universe.proofs.Members.{in_at}
use Rattle.am_labels.specs.Matcher.{all_hold}
use Rattle.am_config.specs.ConfigFile.{Configuration, RouteTree, matchers_of, continues_of}
use Rattle.am_config.specs.ConfigFile.{children_of}
use Rattle.am_config.specs.Path.{list_of, route_at, leads_through}
use Rattle.am_eval.specs.Routing.{EndsThere, ends_at, is_last}
use Rattle.am_eval.proofs.FlatEnds.{ends_exactly as ends_flat, matched_ends}
use Rattle.am_eval.proofs.ListTests.{one_of}
use Rattle.am_search.proofs.PrefixOrder.{begins_itself, begins_same, begins_parts}
use Rattle.am_lint.specs.declared.literals.Part.{Part}
use Rattle.am_lint.specs.declared.literals.Part.TheVariants.{Way, Before, Children}
use Rattle.am_lint.specs.Places.{stands_before, is_child_of}
use Rattle.am_lint.specs.Table.{IsRoute}
use Rattle.am_lint.specs.Literals.{is_wanted, stands_in}
use Rattle.am_eval.specs.Reaching.{EndsAt, Enters}
use Rattle.am_lint.specs.Reasons.{MatchesWay}
use Rattle.am_lint.proofs.PlaceSteps.{same_step, same_child}

-- ---- The first items of a list.

at_taken : {X : Type 0} (P : X → Type 0) (n : ℕ) (xs : List X) (k : ℕ) (x : X)
    → AllByRecursion P (take n xs) → k < n → slice_get xs k ≡ Some x → P x
at_taken P zero xs k x h lt is = absurd (omega arith)
at_taken P (suc n) [] k x h lt is = absurd (cc)
at_taken P (suc n) (y ∷ xs) zero x h lt is = subst P (same_Some y x is) h.0
at_taken P (suc n) (y ∷ xs) (suc k) x h lt is = at_taken P n xs k x h.1 (omega arith) is

by_taken : {X : Type 0} (P : X → Type 0) (n : ℕ) (xs : List X)
    → ((k : ℕ) (x : X) → k < n → slice_get xs k ≡ Some x → P x)
    → AllByRecursion P (take n xs)
by_taken P zero xs h = tt
by_taken P (suc n) [] h = tt
by_taken P (suc n) (y ∷ xs) h =
    (h 0 y (omega arith) refl, by_taken P n xs (λ k x lt is. h (suc k) x (omega arith) is))

-- ---- From a route down.

-- what a part asks of an alert: it matches the routes of the part if it must, and otherwise none
abbrev pub Meets : LabelMap → RouteTree → List ℕ → Part → Type 0
Meets s t path part =
    (q : List ℕ) (u : RouteTree) → route_at t q ≡ Some u
    → IsTrue (stands_in part path q (continues_of u)) → all_hold s (matchers_of u) ≡ is_wanted part

-- a route below a child
down : (t child : RouteTree) (p : ℕ) (q : List ℕ)
    → slice_get (list_of (children_of t)) p ≡ Some child → route_at t (p ∷ q) ≡ route_at child q
down t child p q is = ap (option_and_then (λ v. route_at v q)) is

child_at : (t u : RouteTree) (k : ℕ) → route_at t (k ∷ []) ≡ Some u
    → slice_get (list_of (children_of t)) k ≡ Some u
child_at t u k at =
    option_and_then_some (λ v. Some v) (slice_get (list_of (children_of t)) k) u at
    (λ v is same. is ∙ same)

unmatched : (b last : Bool) → (b && last) ≡ false → last ≡ true → b ≡ false
unmatched true last e is = sym is ∙ e
unmatched false last e is = refl

module _ (s : LabelMap) where
  abbrev Matches : RouteTree → Type 0
  Matches t = IsTrue (all_hold s (matchers_of t))

  abbrev MatchesFrom : RouteTree → List ℕ → Type 0
  MatchesFrom t q = (u : RouteTree) × (route_at t q ≡ Some u) × Matches u

  abbrev GoesPast : RouteTree → Type 0
  GoesPast t = IsFalse (is_last s t)

  matched : (t : RouteTree) (path : List ℕ) → EndsThere s t path → Matches t
  matched t [] h = h.0
  matched t (p ∷ path) h = h.0

  -- ---- What an alert that ends at or below a route has met.

  way_matched : (t : RouteTree) (path end q : List ℕ) → EndsThere s t end
      → IsTrue (leads_through path end) → IsTrue (leads_through q path) → MatchesFrom t q
  way_matched t path end [] h leads on = (t, refl, matched t end h)
  way_matched t [] end (k ∷ q) h leads on = absurd (false≢true on)
  way_matched t (p ∷ path) [] (k ∷ q) h leads on = absurd (false≢true leads)
  way_matched t (p ∷ path) (r ∷ end) (k ∷ q) h leads on =
      let lead = begins_parts r p end path leads in
      let step = begins_parts p k path q on in
      let is = ap (slice_get (list_of (children_of t))) (sym (lead.0 ∙ step.0)) ∙ h.2 in
      let m = way_matched h.1 path end q h.4 lead.1 step.1 in
      (m.0, down t h.1 k q is ∙ m.1, m.2)

  none_before : (t : RouteTree) (path end : List ℕ) → EndsThere s t end
      → IsTrue (leads_through path end) → Meets s t path Before
  none_before t [] end h leads [] u at stands =
      absurd (false≢true (and_parts (not (continues_of u)) false stands).1)
  none_before t [] end h leads (k ∷ q) u at stands =
      absurd (false≢true (and_parts (not (continues_of u)) false stands).1)
  none_before t (p ∷ path) end h leads [] u at stands =
      absurd (false≢true (and_parts (not (continues_of u)) false stands).1)
  none_before t (p ∷ path) [] h leads (r ∷ q) u at stands = absurd (false≢true leads)
  none_before t (p ∷ path) (k ∷ end) h leads (r ∷ []) u at stands =
      let parts = and_parts (not (continues_of u)) (nat_lt r p) stands in
      let same = (begins_parts k p end path leads).0 in
      let lt : r < k = omega (arith, ltb-true r p parts.1, same) in
      unmatched (all_hold s (matchers_of u)) (not (continues_of u))
      (at_taken GoesPast k (list_of (children_of t)) r u h.3 lt (child_at t u r at)) parts.0
  none_before t (p ∷ path) (k ∷ end) h leads (r ∷ o ∷ q) u at stands =
      let parts = and_parts (not (continues_of u)) (p == r && stands_before path (o ∷ q)) stands in
      let inner = and_parts (p == r) (stands_before path (o ∷ q)) parts.1 in
      let lead = begins_parts k p end path leads in
      let same : r ≡ k = sym (lead.0 ∙ eqb-true p r inner.0) in
      let is = ap (slice_get (list_of (children_of t))) same ∙ h.2 in
      none_before h.1 path end h.4 lead.1 (o ∷ q) u (sym (down t h.1 r (o ∷ q) is) ∙ at)
      (and_from (not (continues_of u)) (stands_before path (o ∷ q)) parts.0 inner.1)

  none_below : (t : RouteTree) (path : List ℕ) → EndsThere s t path → Meets s t path Children
  none_below t [] h [] u at stands = absurd (false≢true stands)
  none_below t [] h (k ∷ []) u at stands =
      AllByRecursion-at (λ v. IsFalse (all_hold s (matchers_of v))) (list_of (children_of t)) u h.1
      (in_at (list_of (children_of t)) k u (child_at t u k at))
  none_below t [] h (k ∷ r ∷ q) u at stands =
      let many = eqb-true (length (k ∷ r ∷ q)) (0 + 1) (and_parts _ true stands).0 in
      absurd (omega (arith, many))
  none_below t (p ∷ path) h [] u at stands =
      absurd (false≢true (and_parts (0 == length (p ∷ path) + 1) false stands).1)
  none_below t (p ∷ path) h (k ∷ q) u at stands =
      let same = (begins_parts k p q path
      (and_parts _ (leads_through (p ∷ path) (k ∷ q)) stands).1).0 in
      let is = ap (slice_get (list_of (children_of t))) same ∙ h.2 in
      none_below h.1 path h.4 q u (sym (down t h.1 k q is) ∙ at)
      (sym (ap (λ n. is_child_of (p ∷ path) (n ∷ q)) same ∙ same_child p path q) ∙ stands)

  -- ---- Where an alert goes that meets what is asked.

  matches_itself : (t : RouteTree) → MatchesFrom t [] → Matches t
  matches_itself t m =
      ap (λ (v : RouteTree). all_hold s (matchers_of v)) (same_Some t m.0 m.1) ∙ m.2

  goes_in : (t u : RouteTree) (path : List ℕ) → route_at t path ≡ Some u
      → ((q : List ℕ) → IsTrue (leads_through q path) → MatchesFrom t q) → Meets s t path Before
      → (end : List ℕ) × EndsThere s t end × IsTrue (leads_through path end)
  goes_in t u [] at way before =
      let end = one_of (ends_at s t) (matched_ends s t (matches_itself t (way [] refl))) in
      (end.0, (ends_flat s t end.0).0 (Contains-from_IsIn (ends_at s t) end.0 end.1), refl)
  goes_in t u (p ∷ path) at way before =
      let children = list_of (children_of t) in
      let past = by_taken GoesPast p children (λ k v lt there. elim (cases_Bool (continues_of v)) [
        | inl goes ↦ and_right (all_hold s (matchers_of v)) (not (continues_of v)) (ap not goes)
        | inr stops ↦
            and_left (all_hold s (matchers_of v)) (not (continues_of v))
            (before (k ∷ []) v (down t v k [] there)
            (and_from (not (continues_of v)) (nat_lt k p) (ap not stops) (lt-ltb k p lt)))
      ]) in
      option_and_then_some (λ v. route_at v path) (slice_get children p) u at
      (λ child is further.
      let r = goes_in child u path further
      (λ q leads.
      let m = way (p ∷ q) (begins_same p path q ∙ leads) in
      (m.0, sym (down t child p q is) ∙ m.1, m.2))
      (λ q v there stands. before (p ∷ q) v (down t child p q is ∙ there)
      (ap (λ b. not (continues_of v) && b) (same_step p path q) ∙ stands)) in (
        p ∷ r.0,
        (matches_itself t (way [] refl), child, is, past, r.1),
        begins_same p r.0 path ∙ r.2,
      ))

  stops_here : (t : RouteTree) (path end : List ℕ) → EndsThere s t end
      → IsTrue (leads_through path end) → Meets s t path Children → EndsThere s t path
  stops_here t [] [] h leads none = h
  stops_here t [] (k ∷ end) h leads none =
      absurd (both_ways (all_hold s (matchers_of h.1))
      (none (k ∷ []) h.1 (down t h.1 k [] h.2) refl) (matched h.1 end h.4))
  stops_here t (p ∷ path) [] h leads none = absurd (false≢true leads)
  stops_here t (p ∷ path) (k ∷ end) h leads none =
      let children = list_of (children_of t) in
      let lead = begins_parts k p end path leads in
      let is = ap (slice_get children) (sym lead.0) ∙ h.2 in (
        h.0,
        h.1,
        is,
        subst (λ n. AllByRecursion GoesPast (take n children)) lead.0 h.3,
        stops_here h.1 path end h.4 lead.1 (λ q v at child.
            none (p ∷ q) v (down t h.1 p q is ∙ at) (same_child p path q ∙ child)),
      )

-- there is a route at each path on the way to a route
pub on_way : (t u : RouteTree) (path q : List ℕ) → route_at t path ≡ Some u
    → IsTrue (leads_through q path) → (v : RouteTree) × (route_at t q ≡ Some v)
on_way t u path [] at leads = (t, refl)
on_way t u [] (k ∷ q) at leads = absurd (false≢true leads)
on_way t u (p ∷ path) (k ∷ q) at leads =
    let parts = begins_parts p k path q leads in
    option_and_then_some (λ v. route_at v path) (slice_get (list_of (children_of t)) p) u at
    (λ child is further.
    let r = on_way child u path q further parts.1 in (
      r.0,
      ap (option_and_then (λ v. route_at v q))
          (ap (slice_get (list_of (children_of t))) (sym parts.0) ∙ is) ∙ r.1,
    ))

-- ---- The same for a configuration.

pub enters_to_end : (c : Configuration) (path : List ℕ) (set : LabelMap) → EndsAt c path set
    → Enters c path set
enters_to_end c path set h = (path, h, begins_itself path)

module _ (c : Configuration) (path : List ℕ) (set : LabelMap) where
  pub way_exactly : IsRoute c path
      → (⊤ × Meets set c.root path Way) ↔ MatchesWay c path set
  way_exactly there = (
    λ m q leads.
        let r = on_way c.root there.0 path q there.1 leads in (r.0, r.1, m.1 q r.0 r.1 leads),
    λ way. (
      tt,
      λ q u at leads.
          let m = way q leads in
          ap (λ (v : RouteTree). all_hold set (matchers_of v)) (same_Some u m.0 (sym at ∙ m.1))
          ∙ m.2,
    ),
  )

  pub entered : Enters c path set → MatchesWay c path set × Meets set c.root path Before
  entered h =
      let end = (ends_flat set c.root h.0).0 h.1 in (
        λ q leads. way_matched set c.root path h.0 q end h.2 leads,
        none_before set c.root path h.0 end h.2,
      )

  pub enters_exactly : IsRoute c path
      → (MatchesWay c path set × Meets set c.root path Before) ↔ Enters c path set
  enters_exactly there = (
    λ h.
        let r = goes_in set c.root there.0 path there.1 h.0 h.1 in
        (r.0, (ends_flat set c.root r.0).1 r.1, r.2),
    entered,
  )

  pub ends_exactly : (Enters c path set × Meets set c.root path Children) ↔ EndsAt c path set
  ends_exactly = (
    λ h.
        let end = (ends_flat set c.root h.0.0).0 h.0.1 in
        (ends_flat set c.root path).1 (stops_here set c.root path h.0.0 end h.0.2 h.1),
    λ ends. (
      enters_to_end c path set ends,
      none_below set c.root path ((ends_flat set c.root path).0 ends),
    ),
  )
