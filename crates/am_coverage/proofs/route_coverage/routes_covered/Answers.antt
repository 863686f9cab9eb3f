use Rattle.std.proofs.Common.{map, ap, subst, sym, ◌∙◌, arith}
use Rattle.std.specs.List.{AllByRecursion}
use Rattle.std.proofs.lemmas.List.{take_all}
use Rattle.am_universe.specs.Universe.{sizes}
use Rattle.am_config.specs.ConfigView.{config_view}
use Rattle.am_config.specs.RoutePaths.{paths_of}
use Rattle.am_coverage.specs.CoverageView.{IsShownRoute}
use Rattle.am_coverage.proofs.SeenEnds.{found_by, routes_alike, routes_shown}
use Rattle.am_coverage.proofs.route_coverage.routes_covered.Goals as goal

pub returns : goal.returns
returns c =
    let s = c.args.space.now in
    let config = config_view c.args.config.now in
    let items = c.deref-end-items.result.now in
    let ends = c.deref-end-items.ensures.value ∙ c.in_ok-ends.ensures.ends in
    let all = c.loop-end.invariant
    ∙ ap (map (found_by items)) (take_all c.loop-end.end-index items (omega (arith, c.loop-end-test.false)))
    ∙ (λ k. map (found_by (ends k)) (ends k)) ∙ routes_alike s config in
    record {
      routes = all;
      shown = subst (AllByRecursion (IsShownRoute (sizes s.labels))) (sym all)
          (routes_shown s config (paths_of config));
    }
