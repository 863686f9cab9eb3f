use Rattle.am_eval.specs.Reaching.{EndsAt}
use Rattle.am_coverage.specs.declared.coverage.RouteCoverage.TheVariants as route_is
use Rattle.am_coverage.proofs.FirstFound.{some_first}
use Rattle.am_coverage.proofs.CoverageLaws.{live_told, coverage_exactly}
use Rattle.am_coverage.proofs.laws.a_dead_route_has_no_label_set.Goals as goal

pub returns : goal.returns
returns _ = record {
  dead = λ s c path. (
    λ dead choice e.
        let first = (coverage_exactly s c path (route_is.Live choice)).1 e in
        let some = some_first s (EndsAt c path) choice first in dead some.0 some.1 some.2,
    λ none set is h. let r = live_told s c path (set, is, h) in none r.0 r.1,
  );
  never_entered = λ s c path. coverage_exactly s c path route_is.NeverEntered;
  entered = λ s c path. coverage_exactly s c path route_is.Entered;
}
