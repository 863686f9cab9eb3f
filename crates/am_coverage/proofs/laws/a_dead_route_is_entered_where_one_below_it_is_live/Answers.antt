use Rattle.am_universe.proofs.ListLemmas.{Contains-from_IsIn}
use Rattle.am_config.specs.RoutePaths.{paths_of}
use Rattle.am_eval.specs.Reaching.{EndsAt}
use Rattle.am_eval.proofs.EndLaws.{at_routes}
use Rattle.am_eval.proofs.RoutePathLaws.{is_path}
use Rattle.am_coverage.specs.declared.coverage.RouteCoverage.TheVariants as route_is
use Rattle.am_coverage.proofs.FirstFound.{some_first}
use Rattle.am_coverage.proofs.CoverageLaws.{live_told, coverage_exactly}
use Rattle.am_coverage.proofs.laws.a_dead_route_is_entered_where_one_below_it_is_live.Goals as goal

pub returns-clause-entered : goal.returns-clause-entered
returns-clause-entered _ s c path dead = (
  λ e.
      let some = ((coverage_exactly s c path route_is.Entered).1 e).1 in
      let end = some.2 in
      let at = at_routes c some.0 end.0 end.1 in
      let told = live_told s c end.0 (some.0, some.1, end.1) in
      let is_one = Contains-from_IsIn (paths_of c) end.0 (is_path c.root at.0 end.0 at.1) in
      (end.0, told.0, is_one, end.2, told.1),
  λ h.
      let first = (coverage_exactly s c h.0 (route_is.Live h.1)).1 h.4 in
      let end = some_first s (EndsAt c h.0) h.1 first in
      (coverage_exactly s c path route_is.Entered).0
      (dead, (end.0, end.1, (h.0, end.2, h.3))),
)
