-- The steps of routes and silences, one more.
use Rattle.std.proofs.Common.{◌≡◌, ◌⊎◌, ℕ, zero, suc, ◌+◌, ◌<◌, ◌≤◌, Bool, true, false, cond}
use Rattle.std.proofs.Common.{◌-◌, List, [], ◌∷◌, ◌++◌, length, map, drop, get_or, slice_get, Some}
use Rattle.std.proofs.Common.{append_assoc, append-nil, refl, ap, sym, ◌∙◌, subst, inl, inr, arith}
use Rattle.std.specs.Prelude.{not, ◌&&◌}
use Rattle.std.proofs.lemmas.List.{length_push, drop_more}
use Rattle.std.proofs.lemmas.Option.{same_Some}
use Rattle.am_universe.specs.Universe.{Label, sizes}
use Rattle.am_universe.specs.Choice.{IsWhole}
use Rattle.am_universe.specs.LabelSet.{label_set_of}
use Rattle.am_labels.specs.Matcher.{Matcher, all_hold}
use Rattle.am_config.specs.ConfigFile.{Configuration, RouteTree, Routes, route, routes_of}
use Rattle.am_config.specs.ConfigFile.{continues_of, children_of, matchers_of}
use Rattle.am_config.specs.ConfigFile.{route_count, routes_count}
use Rattle.am_judged_lists.specs.Cube.{matches, IsCubeOf}
use Rattle.am_first_sets.proofs.CubeTruth.{matches_where}
use Rattle.am_eval.specs.Routing.{is_last}
use Rattle.am_outcomes.specs.Configurations.{Tried}
use Rattle.am_outcomes.specs.declared.steps.Step.{Step}
use Rattle.am_outcomes.specs.Steps.{AreSteps, GoesFrom, GoesThrough, GoesPast, step_after}
use Rattle.am_outcomes.specs.Ways.{way_at, child_way, routes_way, list_way, way}

-- ---- The item at a position of a longer list.

pub got_longer : {X : Type 0} (xs ys : List X) (k : ℕ) (x : X) → slice_get xs k ≡ Some x
    → slice_get (xs ++ ys) k ≡ Some x
got_longer [] ys k x e = absurd cc
got_longer (y ∷ xs) ys zero x e = e
got_longer (y ∷ xs) ys (suc k) x e = got_longer xs ys k x e

got_last : {X : Type 0} (xs : List X) (x : X) → slice_get (xs ++ x ∷ []) (length xs) ≡ Some x
got_last [] x = refl
got_last (y ∷ xs) x = got_last xs x

got_before : {X : Type 0} (xs : List X) (y : X) (k : ℕ) (x : X)
    → slice_get (xs ++ y ∷ []) k ≡ Some x
    → (slice_get xs k ≡ Some x) ⊎ ((k ≡ length xs) × (y ≡ x))
got_before [] y zero x e = inr (refl, same_Some y x e)
got_before [] y (suc k) x e = absurd cc
got_before (z ∷ xs) y zero x e = inl e
got_before (z ∷ xs) y (suc k) x e = elim (got_before xs y k x e) [
  | inl there ↦ inl there
  | inr last ↦ inr (ap suc last.0, last.1)
]

-- what is left of a list behind an item, with the item
pub next_from_behind : {X Y : Type 0} (view : X → Y) (xs : List X) (i : ℕ) (x : X) → i < length xs
    → x ≡ get_or xs (length xs - 1 - i) x
    → map view (drop (length xs - (i + 1)) xs) ≡ view x ∷ map view (drop (length xs - i) xs)
next_from_behind view xs i x within is =
    let k = length xs - 1 - i in
    let here : length xs - (i + 1) ≡ k = omega arith in
    let more : length xs - i ≡ k + 1 = omega (arith, within) in
    let first : k < length xs = omega (arith, within) in
    rw (here, more, drop_more xs k x first, ← is) refl

-- ---- More steps.

goes_longer : (steps more : List Step) (next : ℕ) (c : List ℕ) (w : List Bool)
    → GoesFrom steps next c w → GoesFrom (steps ++ more) next c w
goes_longer steps more next c [] goes = goes
goes_longer steps more next c (b ∷ w) (k, step, is, at, says, goes) = (
  k,
  step,
  is,
  got_longer steps more k step at,
  says,
  goes_longer steps more (step_after step b) c w goes,
)

pub steps_pushed : (steps : List Step) (one : Step) → AreSteps steps
    → one.matched ≤ length steps → one.unmatched ≤ length steps → AreSteps (steps ++ one ∷ [])
steps_pushed steps one are matched unmatched k step at = elim (got_before steps one k step at) [
  | inl there ↦ are k step there
  | inr last ↦
      subst (λ (x : Step). (x.matched ≤ k) × (x.unmatched ≤ k)) last.1
      (omega (arith, matched, last.0), omega (arith, unmatched, last.0))
]

pub no_steps : AreSteps []
no_steps k step at = absurd cc

-- ---- Configuration by configuration, the last one first.

either_way : (s w : List Bool) (last : Bool) → s ++ cond last w w ≡ s ++ w
either_way s w true = refl
either_way s w false = refl

-- one configuration more is tried before all else
abbrev pub tried_first : Configuration → Tried → Tried
tried_first config later = record {
  configurations = config ∷ later.configurations;
  lists = later.lists;
}

pub through_more : (u : List Label) (steps new : List Step) (first after : ℕ)
    (config : Configuration) (later : Tried) → GoesThrough u later steps first
    → GoesPast u config.root steps first first new after
    → GoesThrough u (tried_first config later) new after
through_more u steps new first after config later so_far one c whole =
    let s = label_set_of u c in
    let w = way s later in
    subst (GoesFrom new after c)
    (either_way (way_at s config.root) w (is_last s config.root)
    ∙ sym (append_assoc (way_at s config.root) (routes_way s later.configurations)
    (list_way s later.lists)))
    (one c whole w w (so_far c whole) (so_far c whole))

-- ---- Silence by silence, the last one first.

-- only lists of matchers are tried
abbrev pub only_lists : List (List Matcher) → Tried
only_lists lists = record { configurations = []; lists = lists }

pub list_pushed : (u : List Label) (ms : List Matcher) (lists : List (List Matcher))
    (steps : List Step) (one : Step) → IsCubeOf u ms one.cube → one.matched ≡ 0
    → one.unmatched ≡ length steps → GoesThrough u (only_lists lists) steps (length steps)
    → GoesThrough u (only_lists (ms ∷ lists)) (steps ++ one ∷ []) (length (steps ++ one ∷ []))
list_pushed u ms lists steps one cube ends next so_far c whole =
    let s = label_set_of u c in (
      length steps,
      one,
      length_push steps one,
      got_last steps one,
      matches_where u c whole ms one.cube (cube c whole.0),
      rest (all_hold s ms) (list_way s lists) (rw next (so_far c whole)),
    )
  where
    rest : (m : Bool) (later : List Bool) → GoesFrom steps one.unmatched c later
        → GoesFrom (steps ++ one ∷ []) (step_after one m) c (cond m [] later)
    rest true later goes = ends
    rest false later goes = goes_longer steps (one ∷ []) one.unmatched c later goes

-- ---- Child by child, the last one first.

pub count_down : (t : RouteTree) → routes_count (children_of t) < route_count t
count_down (route settings children) = omega arith

-- from a step on, a choice goes its way through some children, and then what is behind
abbrev pub GoesBelow :
    List Label → List RouteTree → List Step → ℕ → List Step → ℕ → Type 0
GoesBelow u ts old behind steps first =
    (c : List ℕ) → IsWhole (sizes u) c → (rest : List Bool) → GoesFrom old behind c rest
    → GoesFrom steps first c (child_way (label_set_of u c) (routes_of ts) ++ rest)

child_goes : (s below rest : List Bool) (last : Bool)
    → s ++ cond last rest (below ++ rest) ≡ (s ++ cond last [] below) ++ rest
child_goes s below rest true = ap (λ l. l ++ rest) (sym (append-nil s))
child_goes s below rest false = sym (append_assoc s below rest)

pub below_more : (u : List Label) (t : RouteTree) (ts : List RouteTree)
    (old steps more new : List Step) (behind first after : ℕ) → steps ≡ old ++ more
    → GoesBelow u ts old behind steps first → GoesPast u t steps first behind new after
    → GoesBelow u (t ∷ ts) old behind new after
below_more u t ts old steps more new behind first after longer so_far one c whole rest goes =
    let s = label_set_of u c in
    let there : GoesFrom steps behind c rest = rw longer (goes_longer old more behind c rest goes) in
    subst (GoesFrom new after c)
    (child_goes (way_at s t) (child_way s (routes_of ts)) rest (is_last s t))
    (one c whole (child_way s (routes_of ts) ++ rest) rest (so_far c whole rest goes) there)

-- ---- A route with all its children.

-- from the step of a route on, behind those of its children
by_step : (steps : List Step) (one : Step) (c : List ℕ) (m continues : Bool)
    (below later last : List Bool) → matches one.cube c ≡ m
    → GoesFrom steps one.matched c (below ++ cond continues later last)
    → GoesFrom steps one.unmatched c later
    → GoesFrom (steps ++ one ∷ []) (length (steps ++ one ∷ [])) c
    ((m ∷ cond m below []) ++ cond (m && not continues) last later)
by_step steps one c m continues below later last says goes past =
    (length steps, one, length_push steps one, got_last steps one, says, rest m continues goes)
  where
    longer : (next : ℕ) (w : List Bool) → GoesFrom steps next c w
        → GoesFrom (steps ++ one ∷ []) next c w
    longer next w g = goes_longer steps (one ∷ []) next c w g

    rest : (m continues : Bool) → GoesFrom steps one.matched c (below ++ cond continues later last)
        → GoesFrom (steps ++ one ∷ []) (step_after one m) c
        (cond m below [] ++ cond (m && not continues) last later)
    rest true true g = longer one.matched (below ++ later) g
    rest true false g = longer one.matched (below ++ last) g
    rest false continues g = longer one.unmatched later past

by_continue : (continues : Bool) (old : List Step) (next end : ℕ) (c : List ℕ)
    (later last : List Bool) → GoesFrom old next c later → GoesFrom old end c last
    → GoesFrom old (cond continues next end) c (cond continues later last)
by_continue true old next end c later last goes_next goes_end = goes_next
by_continue false old next end c later last goes_next goes_end = goes_end

-- the step of a route is added behind those of its children
pub route_pushed : (u : List Label) (t : RouteTree) (ts : List RouteTree)
    (old steps more : List Step) (one : Step) (behind next end : ℕ)
    → IsCubeOf u (matchers_of t) one.cube → routes_of ts ≡ children_of t → one.unmatched ≡ next
    → steps ≡ old ++ more → behind ≡ cond (continues_of t) next end
    → GoesBelow u ts old behind steps one.matched
    → GoesPast u t old next end (steps ++ one ∷ []) (length (steps ++ one ∷ []))
route_pushed u (route settings children) ts old steps more one behind next end cube are to longer
    is_behind below c whole later last goes_next goes_end =
    let s = label_set_of u c in
    by_step steps one c (all_hold s settings.matchers) settings.continues (child_way s children)
    later last (matches_where u c whole settings.matchers one.cube (cube c whole.0))
    (subst (λ (ds : Routes). GoesFrom steps one.matched c
    (child_way s ds ++ cond settings.continues later last)) are
    (below c whole (cond settings.continues later last)
    (rw is_behind (by_continue settings.continues old next end c later last goes_next goes_end))))
    (rw (to, longer) (goes_longer old more next c later goes_next))
