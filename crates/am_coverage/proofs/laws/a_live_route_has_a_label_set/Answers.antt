use Rattle.am_coverage.specs.declared.coverage.RouteCoverage.TheVariants as route_is
use Rattle.am_coverage.proofs.CoverageLaws.{live_told, coverage_exactly}
use Rattle.am_coverage.proofs.laws.a_live_route_has_a_label_set.Goals as goal

pub returns : goal.returns
returns _ = record {
  told = live_told;
  first = λ s c path choice. coverage_exactly s c path (route_is.Live choice);
}
