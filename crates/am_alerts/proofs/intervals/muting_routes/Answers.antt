use Rattle.std.proofs.Common.{◌≡◌, ◌++◌, ◌∷◌, ℕ, List, [], Bool, true, false, Option, Some, None, if◌then◌else◌, drop, ◌+◌, refl, sym, ap, ◌∙◌, append_assoc, append-nil}
use Rattle.std.specs.List.{cons_option, filter_map, flat_map}
use Rattle.std.proofs.lemmas.List.{drop_more}
use Rattle.std.proofs.lemmas.List.Concat.{flat_map-append}
use Rattle.std.proofs.lemmas.Option.{none-some, same_Some}
use Rattle.std.specs.Global.{Vec}
use Rattle.am_config.specs.ConfigView.{config_view}
use Rattle.am_config.specs.ConfigFile.{Configuration, RouteTree}
use Rattle.am_config.specs.Path.{route_at}
use Rattle.am_config.specs.RouteView.{route_view}
use Rattle.am_alerts.specs.declared.intervals.MutingRoute.{MutingRoute}
use Rattle.am_alerts.specs.declared.route_ends.RouteEnds.{RouteEnds}
use Rattle.am_alerts.specs.AlertLabels.{flag}
use Rattle.am_alerts.specs.Intervals.{route_intervals}
use Rattle.am_alerts.specs.MutingRoutes.{intervals_among, intervals_at, intervals_if_end}
use Rattle.am_alerts.specs.RouteEnds.{ends_of}
use Rattle.am_alerts.proofs.intervals.muting_routes.Goals as goal
use Rattle.am_alerts.proofs.intervals.muting_routes.Goals.{in-Some+then-has_intervals+in_ok-push, in-Some+else-has_intervals, in_default}

-- a route that has time intervals
with_route : (c : Configuration) (muting new : List MutingRoute) (m : MutingRoute) (row : RouteEnds)
    (left : List RouteEnds) (i : ℕ) → new ≡ muting ++ m ∷ [] → m.ends.now ≡ row
    → route_at c.root row.path ≡ Some (route_view m.route.now)
    → intervals_at new i ++ intervals_among c (ends_of left i)
    ≡ intervals_at muting i ++ intervals_among c (ends_of (row ∷ left) i)
with_route c muting new m row left i pushed own found =
    ap (λ ms. intervals_at ms i ++ intervals_among c (ends_of left i)) pushed
    ∙ ap (λ xs. xs ++ intervals_among c (ends_of left i)) (flat_map-append (intervals_if_end i) muting (m ∷ []))
    ∙ append_assoc (intervals_at muting i) (flat_map (intervals_if_end i) (m ∷ [])) (intervals_among c (ends_of left i))
    ∙ ap (λ (r : RouteEnds). intervals_at muting i
    ++ (((if flag r.alerts.items i then route_intervals (route_view m.route.now) else []) ++ []) ++ intervals_among c (ends_of left i))) own
    ∙ ap (λ xs. intervals_at muting i ++ xs) (by (flag row.alerts.items i))
  where
    by : (b : Bool) → ((if b then route_intervals (route_view m.route.now) else []) ++ []) ++ intervals_among c (ends_of left i)
        ≡ intervals_among c (cons_option (if b then Some row.path else None) (ends_of left i))
    by true =
        ap (λ xs. xs ++ intervals_among c (ends_of left i)) (append-nil (route_intervals (route_view m.route.now)))
        ∙ sym (ap (λ r. flat_map route_intervals (cons_option r (filter_map (route_at c.root) (ends_of left i)))) found)
    by false = refl

-- a route that has none
without_route : (c : Configuration) (muting : List MutingRoute) (row : RouteEnds) (left : List RouteEnds) (i : ℕ)
    → ((t : RouteTree) → route_at c.root row.path ≡ Some t → route_intervals t ≡ [])
    → intervals_at muting i ++ intervals_among c (ends_of left i)
    ≡ intervals_at muting i ++ intervals_among c (ends_of (row ∷ left) i)
without_route c muting row left i none = ap (λ xs. intervals_at muting i ++ xs) (by (flag row.alerts.items i))
  where
    at : (r : Option RouteTree) → route_at c.root row.path ≡ r → intervals_among c (ends_of left i)
        ≡ flat_map route_intervals (cons_option r (filter_map (route_at c.root) (ends_of left i)))
    at None e = refl
    at (Some t) e = ap (λ xs. xs ++ intervals_among c (ends_of left i)) (sym (none t e))

    by : (b : Bool) → intervals_among c (ends_of left i)
        ≡ intervals_among c (cons_option (if b then Some row.path else None) (ends_of left i))
    by true = at (route_at c.root row.path) refl
    by false = refl

pub loop-ends-preserved : goal.loop-ends-preserved
loop-ends-preserved c = λ i.
    let config = config_view c.args.config.now in
    let rows = c.args.rows.now in
    let k = c.loop-ends.ends-index in
    let row = c.ends-item.result in
    let left = drop (k + 1) rows in
    let old = c.loop-ends.muting.items in
    let here : drop k rows ≡ row ∷ left =
    drop_more rows k row c.loop-ends-test.true ∙ ap (λ r. r ∷ left) (sym c.ends-item.is) in
    let was : intervals_at old i ++ intervals_among config (ends_of (row ∷ left) i) ≡ intervals_among config (ends_of rows i) =
    ap (λ rs. intervals_at old i ++ intervals_among config (ends_of rs i)) (sym here) ∙ c.loop-ends.invariant i in
    let all = λ (v : Vec MutingRoute). intervals_at v.items i ++ intervals_among config (ends_of left i) in
    elim c.match-at.branch [
      | in-Some+then-has_intervals+in_ok-push w ↦
          ap all w.muting-is
          ∙ with_route config old w.push.new.self.items _ row left i w.in_ok-push.ensures.items refl w.in-Some.ensures.found
          ∙ was
      | in-Some+else-has_intervals w ↦
          ap all w.muting-is
          ∙ without_route config old row left i (λ t is.
          ap route_intervals (same_Some t (route_view w.in-Some.route.now) (sym is ∙ w.in-Some.ensures.found))
          ∙ w.has_intervals.ensures w.if-has_intervals.false) ∙ was
      | in_default w ↦
          ap all w.muting-is
          ∙ without_route config old row left i (λ t is. absurd (none-some t (sym w.in_default.ensures.none ∙ is)))
          ∙ was
    ]
