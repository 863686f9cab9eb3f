use Rattle.std.proofs.Common.{rules, ◌≡◌, List, ℕ, map, length, refl, ap, sym, subst, ◌∙◌, inl, inr, arith}
use Rattle.std.specs.Prelude.{slice_get, Some, option_map}
use Rattle.std.proofs.lemmas.Option.{same_Some, slice_get_read, slice_get_cases, slice_get_within, slice_get-map}
use Rattle.am_config.specs.ConfigFile.{RouteTree, matchers_of}
use Rattle.am_config.specs.RoutePaths.{all_routes}
use Rattle.am_config.specs.RouteView.{route_view}
use Rattle.am_judged_lists.specs.Cube.{verdict_at}
use Rattle.am_judged_lists.specs.Verdicts.{verdict_of_list}
use Rattle.am_judged_lists.proofs.BlockLemmas.{each_place_pushed}
use Rattle.am_plans.specs.RoutesByWays.{IsWayTo}
use Rattle.am_plans.proofs.RouteMade.{map_twice}
use Rattle.am_plans.proofs.route_lists.RouteLists.of.Goals as goal

pub loop-path-preserved : goal.loop-path-preserved
loop-path-preserved c = record {
  count = search rules;
  each = λ config i way path are at there.
      let paths = c.args.routes.now.paths.items in
      let ways = c.loop-path.ways.items in
      each_place_pushed (λ i way. (path : List ℕ) → slice_get paths i ≡ Some path → IsWayTo (all_routes config) path way)
      ways c.to.result (λ i way at path there. c.loop-path.invariant.each config i way path are at there)
      (λ path there.
      let index = c.loop-path.path-index in
      let item = slice_get_read c.deref-path-items.result.now _ index c.path-item.result refl c.loop-path-test.true c.path-item.is in
      let same : c.path-item.result ≡ path =
      same_Some c.path-item.result path (sym item ∙ (λ j. slice_get (c.deref-path-items.ensures.value j) (sym c.loop-path.invariant.count j)) ∙ there) in
      subst (λ (p : List ℕ). IsWayTo (all_routes config) p c.to.result) same (c.to.ensures config are))
      i way (ap (λ xs. slice_get xs i) (sym c.in_ok-push.ensures.items) ∙ at) path there;
}

pub returns : goal.returns
returns c = record {
  lists = λ config are.
      let all = all_routes config in
      let u = c.args.universe.now in
      let paths = c.args.routes.now.paths.items in
      let ways = c.loop-path.ways.items in
      record {
        verdicts = λ prefix admitted.
            let says = λ (t : RouteTree). verdict_of_list u (matchers_of t) prefix in
            ap (map (λ cube. verdict_at cube prefix)) c.in_ok-of.ensures.cubes
            ∙ c.in_ok-cubes.ensures.verdicts prefix admitted
            ∙ ap (map (λ route. says (route_view route.now))) c.deref.ensures.value
            ∙ map_twice says (λ route. route_view route.now) c.args.routes.now.routes.items
            ∙ ap (map says) are.listed.routes ∙ sym (map_twice says (λ found. found.1) all);
        ways = λ i found at.
            let there : slice_get paths i ≡ Some found.0 =
            ap (λ xs. slice_get xs i) are.listed.paths ∙ slice_get-map (λ (x : List ℕ × RouteTree). x.0) all i
            ∙ ap (option_map (λ (x : List ℕ × RouteTree). x.0)) at in
            elim ((slice_get_cases ways i).1) [
              | inl is ↦ (is.0, is.2, c.loop-path.invariant.each config i is.0 found.0 are is.2 there)
              | inr past ↦
                  absurd (omega (
                    arith,
                    past.0,
                    slice_get_within paths i found.0 there,
                    c.loop-path.invariant.count,
                    c.loop-path-test.false,
                    ap length c.deref-path-items.ensures.value,
                  ))
            ];
      };
}
