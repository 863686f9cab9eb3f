use Rattle.std.proofs.Common.{◌≡◌, ◌<◌, ◌-◌, ◌++◌, ℕ, List, length, map, drop}
use Rattle.std.proofs.Common.{append_assoc, cond, refl, ap, sym, ◌∙◌, subst, subst₂, arith}
use Rattle.std.proofs.lemmas.List.{length-append}
use Rattle.am_config.specs.ConfigFile.{continues_of}
use Rattle.am_config.specs.RouteView.{route_view}
use Rattle.am_config.specs.ConfigFile.{RouteTree, route_count, routes_count}
use Rattle.am_config.proofs.RouteLists.{child_within}
use Rattle.am_judged_lists.specs.Cube.{IsCubeOf}
use Rattle.am_outcomes.specs.Steps.{AreSteps, GoesPast}
use Rattle.am_outcomes.specs.declared.steps.Step.{Step}
use Rattle.am_outcomes.proofs.StepLemmas.{GoesBelow, below_more, next_from_behind, steps_pushed}
use Rattle.am_outcomes.proofs.StepLemmas.{route_pushed, count_down}
use Rattle.am_outcomes.proofs.steps.+push_route.Goals as goal
use Rattle.am_outcomes.proofs.steps.+push_route.Goals.{then-continues, else-continues}

pub push_route-requires : goal.push_route-requires
push_route-requires t c =
    let l = c.loop-i in
    let children = c.routes-children.result.now in
    let child = c.index-children-children.result in
    let k = length children - 1 - l.i in
    let within : k < length children = omega (arith, c.loop-i-test.true) in
    let w = child_within children k child within c.index-children-children.is in
    let counted = ap routes_count c.routes-children.ensures.children in
    let smaller : route_count (route_view child) < route_count (route_view c.args.route.now) =
    omega (arith, w.counted, counted, count_down (route_view c.args.route.now)) in
    let is : route_count (route_view c.args.route.now) ≡ t = c.decreases in
    let falls : route_count (route_view child) < t = omega (arith, smaller, is) in
    let long = ap length l.invariant.more.1 in
    let parts = length-append c.args.steps.now.items l.invariant.more.0 in (
      falls,
      (
        l.invariant.steps,
        (
          l.invariant.first,
          elim c.if-continues.branch [
            | then-continues w ↦ omega (arith, w.behind-is, c.requires.next, long, parts)
            | else-continues w ↦ omega (arith, w.behind-is, c.requires.end, long, parts)
          ],
        ),
      ),
    )

pub loop-i-preserved : goal.loop-i-preserved
loop-i-preserved t c =
    let l = c.loop-i in
    let u = c.args.universe.now in
    let old = c.args.steps.now.items in
    let children = c.routes-children.result.now in
    let child = c.index-children-children.result in
    let behind = c.if-continues.behind in
    let new = c.push_route.new.steps.items in
    let more = c.in_ok-first.ensures.more in
    record {
      steps = c.in_ok-first.ensures.steps;
      first = omega (arith, c.in_ok-first.ensures.first);
      more = (
        l.invariant.more.0 ++ more.0,
        more.1 ∙ ap (λ xs. xs ++ more.0) l.invariant.more.1
            ∙ append_assoc old l.invariant.more.0 more.0,
      );
      goes = subst (λ (ts : List RouteTree). GoesBelow u ts old behind new c.in_ok-first.first)
          (sym (next_from_behind route_view children l.i child c.loop-i-test.true
          c.index-children-children.is))
          (below_more u (route_view child) (map route_view (drop (length children - l.i) children))
          old l.steps.items l.invariant.more.0 new behind l.first c.in_ok-first.first
          l.invariant.more.1 l.invariant.goes c.in_ok-first.ensures.goes);
    }

pub returns-clause-steps : goal.returns-clause-steps
returns-clause-steps t c =
    let l = c.loop-i in
    let long = ap length l.invariant.more.1 in
    let parts = length-append c.args.steps.now.items l.invariant.more.0 in
    subst AreSteps (sym c.in_ok-push.ensures.items)
    (steps_pushed l.steps.items _ l.invariant.steps l.invariant.first
    (omega (arith, c.requires.next, long, parts)))

pub returns-clause-goes : goal.returns-clause-goes
returns-clause-goes t c =
    let l = c.loop-i in
    let u = c.args.universe.now in
    let old = c.args.steps.now.items in
    let children = c.routes-children.result.now in
    let behind = c.if-continues.behind in
    let tree = route_view c.args.route.now in
    let all : length children - l.i ≡ 0 = omega (arith, c.loop-i-test.false) in
    let is_behind : behind ≡ cond (continues_of tree) c.args.next c.args.end =
    elim c.if-continues.branch [
      | then-continues w ↦
          w.behind-is ∙ ap (λ b. cond b c.args.next c.args.end)
          (sym w.if-continues.true ∙ c.continues.ensures.continues)
      | else-continues w ↦
          w.behind-is ∙ ap (λ b. cond b c.args.next c.args.end)
          (sym w.if-continues.false ∙ c.continues.ensures.continues)
    ] in
    let long = ap length c.in_ok-push.ensures.items in
    subst₂ (λ (steps : List Step) (n : ℕ). GoesPast u tree old c.args.next c.args.end steps n)
    (sym c.in_ok-push.ensures.items) (omega (arith, c.len.ensures, long))
    (route_pushed u tree (map route_view children) old l.steps.items l.invariant.more.0 _ behind
    c.args.next c.args.end
    (subst (λ ms. IsCubeOf u ms c.in_ok-of.field-0) c.matchers.ensures.matchers
    c.in_ok-of.ensures.exact)
    c.routes-children.ensures.children refl l.invariant.more.1 is_behind
    (subst (λ (k : ℕ). GoesBelow u (map route_view (drop k children)) old behind l.steps.items l.first)
    all l.invariant.goes))
