use Rattle.std.proofs.Common.{◌≡◌, List, [], ◌∷◌, ◌++◌, length, Bor, false, ap, sym, ◌∙◌, subst₂}
use Rattle.std.proofs.Common.{append-nil, ◌+◌, map, drop, arith}
use Rattle.std.proofs.lemmas.List.{drop_more, length-map, map-append}
use Rattle.std.proofs.lemmas.Grind.{common_steps}
use Rattle.am_universe.specs.LabelSet.{label_set_of}
use Rattle.am_config.specs.ConfigFile.{Routes}
use Rattle.am_config.specs.RouteView.{route_view}
use Rattle.am_config.specs.declared.route.Route.{Route}
use Rattle.am_config.proofs.RouteLists.{child_within}
use Rattle.am_eval.specs.Routing.{is_last}
use Rattle.am_eval.proofs.ChildEnds.{is_last-true, is_last-goes_on, is_last-unmatched}
use Rattle.am_first_sets.specs.RouteCubes.{AreCubesOfEach}
use Rattle.am_first_sets.specs.declared.route_cubes.RouteCubes.{RouteCubes}
use Rattle.am_outcomes.specs.Handling.{handlers_among}
use Rattle.am_outcomes.specs.OutcomesView.{routes_view}
use Rattle.am_outcomes.proofs.RouterSteps.{said_by, below_of, no_handlers, added_itself, added_below}
use Rattle.am_outcomes.proofs.RouterSteps.{as_many, own_of, with_left, goes_on, stops_there}
use Rattle.am_outcomes.proofs.routers.+handlers.Goals as goal

pub add_handlers-returns-then-not-must-clause-matches :
    goal.add_handlers-returns-then-not-must-clause-matches
add_handlers-returns-then-not-must-clause-matches t c = λ u whole are.
    sym c.if-not-must.true ∙ c.must.ensures.verdict
    ∙ said_by u c.args.choice.now whole (route_view c.args.route.now) c.args.cubes.now are

pub add_handlers-returns-then-not-must-clause-added :
    goal.add_handlers-returns-then-not-must-clause-added
add_handlers-returns-then-not-must-clause-added t c = λ u whole are.
    let route = route_view c.args.route.now in
    let old = routes_view c.args.found.now.items in
    let off = sym (said_by u c.args.choice.now whole route c.args.cubes.now are)
    ∙ sym c.must.ensures.verdict ∙ c.if-not-must.true in
    sym (ap (λ xs. old ++ xs) (no_handlers (label_set_of u c.args.choice.now) route off)
    ∙ append-nil old)

pub add_handlers-returns-in_ok-push-clause-matches :
    goal.add_handlers-returns-in_ok-push-clause-matches
add_handlers-returns-in_ok-push-clause-matches t c = λ u whole are.
    sym c.if-not-must.false ∙ c.must.ensures.verdict
    ∙ said_by u c.args.choice.now whole (route_view c.args.route.now) c.args.cubes.now are

pub add_handlers-returns-else-len-before-clause-matches :
    goal.add_handlers-returns-else-len-before-clause-matches
add_handlers-returns-else-len-before-clause-matches t c = λ u whole are.
    sym c.if-not-must.false ∙ c.must.ensures.verdict
    ∙ said_by u c.args.choice.now whole (route_view c.args.route.now) c.args.cubes.now are

pub add_handlers-returns-in_ok-push-clause-added :
    goal.add_handlers-returns-in_ok-push-clause-added
add_handlers-returns-in_ok-push-clause-added t c = λ u whole are.
    let choice = c.args.choice.now in
    let s = label_set_of u choice in
    let route = route_view c.args.route.now in
    let view = λ (r : Bor Route). route_view r.now in
    let old = c.args.found.now.items in
    let more = c.add_handlers_among.new.found.items in
    let on = sym (said_by u choice whole route c.args.cubes.now are)
    ∙ sym c.must.ensures.verdict ∙ c.if-not-must.false in
    let below = c.in_ok-add_handlers_among.ensures.added u whole
    (subst₂ (λ (ts : Routes) (rs : List RouteCubes). AreCubesOfEach u choice ts rs)
    (sym c.routes.ensures.children) (sym c.as_slice.ensures.value)
    (below_of u choice route c.args.cubes.now are))
    ∙ ap (λ ts. routes_view old ++ handlers_among s ts) c.routes.ensures.children in
    let same : length (routes_view more) ≡ length (routes_view old) = omega (
      arith,
      length-map more view,
      length-map old view,
      c.len.ensures,
      c.len-before.ensures,
      c.if-len-before.true,
    ) in
    ap routes_view c.in_ok-push.ensures.items ∙ map-append view more (c.args.route ∷ [])
    ∙ added_itself s route (routes_view old) (routes_view more) on below same

pub add_handlers-returns-else-len-before-clause-added :
    goal.add_handlers-returns-else-len-before-clause-added
add_handlers-returns-else-len-before-clause-added t c = λ u whole are.
    let choice = c.args.choice.now in
    let s = label_set_of u choice in
    let route = route_view c.args.route.now in
    let view = λ (r : Bor Route). route_view r.now in
    let old = c.args.found.now.items in
    let more = c.add_handlers_among.new.found.items in
    let on = sym (said_by u choice whole route c.args.cubes.now are)
    ∙ sym c.must.ensures.verdict ∙ c.if-not-must.false in
    let below = c.in_ok-add_handlers_among.ensures.added u whole
    (subst₂ (λ (ts : Routes) (rs : List RouteCubes). AreCubesOfEach u choice ts rs)
    (sym c.routes.ensures.children) (sym c.as_slice.ensures.value)
    (below_of u choice route c.args.cubes.now are))
    ∙ ap (λ ts. routes_view old ++ handlers_among s ts) c.routes.ensures.children in
    added_below s route (routes_view old) (routes_view more) on below (λ same. omega (
      arith,
      same,
      length-map more view,
      length-map old view,
      c.len.ensures,
      c.len-before.ensures,
      c.if-len-before.false,
    ))

pub add_handlers_among-add_handlers-requires : goal.add_handlers_among-add_handlers-requires
add_handlers_among-add_handlers-requires t c = grind (arith, common_steps, child_within)

pub add_handlers_among-loop-i-preserved : goal.add_handlers_among-loop-i-preserved
add_handlers_among-loop-i-preserved t c = λ u whole are.
    let l = c.loop-i in
    let s = label_set_of u c.args.choice.now in
    let routes = c.args.routes.now in
    let child = c.index-routes-i.result in
    let route = route_view child in
    let own = own_of u c.args.choice.now routes c.args.cubes.now l.i child c.in-Some.own.now are
    c.loop-i-test.true c.index-routes-i.is c.in-Some.ensures.lookup.1 in
    let matched = c.in_ok-matches.ensures.matches u whole own in
    let last : is_last s route ≡ false =
    elim c.else-matches.branch [
      | goal.add_handlers_among-else-matches-via-then-matches+else-not-continues w ↦
          is_last-goes_on s route (sym matched ∙ w.if-matches.true)
          (sym w.continues.ensures.continues ∙ w.if-not-continues.false)
      | goal.add_handlers_among-else-matches-via-else-matches w ↦
          is_last-unmatched s route (sym matched ∙ w.if-matches.false)
    ] in
    let left = map route_view (drop (l.i + 1) routes) in
    ap (λ found. with_left s found left) (c.in_ok-matches.ensures.added u whole own)
    ∙ goes_on s (routes_view l.found.items) route left _ last
    (rw (drop_more routes l.i child c.loop-i-test.true, ← c.index-routes-i.is)
    at l.invariant u whole are)

pub add_handlers_among-returns-in_default : goal.add_handlers_among-returns-in_default
add_handlers_among-returns-in_default t c = record {
  added = λ u whole are.
      absurd (omega (
        arith,
        c.loop-i-test.true,
        c.in_default.ensures.lookup.3,
        as_many u c.args.choice.now (map route_view c.args.routes.now) c.args.cubes.now are,
        length-map c.args.routes.now route_view,
      ));
}

pub add_handlers_among-returns-then-not-continues :
    goal.add_handlers_among-returns-then-not-continues
add_handlers_among-returns-then-not-continues t c = record {
  added = λ u whole are.
      let l = c.loop-i in
      let s = label_set_of u c.args.choice.now in
      let routes = c.args.routes.now in
      let child = c.index-routes-i.result in
      let route = route_view child in
      let own = own_of u c.args.choice.now routes c.args.cubes.now l.i child c.in-Some.own.now are
      c.loop-i-test.true c.index-routes-i.is c.in-Some.ensures.lookup.1 in
      let last = is_last-true s route
      (sym (c.in_ok-matches.ensures.matches u whole own) ∙ c.if-matches.true)
      (sym c.continues.ensures.continues ∙ c.if-not-continues.true) in
      c.in_ok-matches.ensures.added u whole own
      ∙ stops_there s (routes_view l.found.items) route (map route_view (drop (l.i + 1) routes))
      _ last (rw (drop_more routes l.i child c.loop-i-test.true, ← c.index-routes-i.is)
      at l.invariant u whole are);
}
