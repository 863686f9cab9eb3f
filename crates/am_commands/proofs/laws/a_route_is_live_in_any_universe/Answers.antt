use Rattle.std.proofs.Common.{Some}
use Rattle.am_eval.specs.Reaching.{EndsAt, Enters, GoesTo}
use Rattle.am_every_alert.proofs.SpaceAlerts.{some_is}
use Rattle.am_coverage.specs.declared.coverage.RouteCoverage.TheVariants as route_is
use Rattle.am_coverage.proofs.FirstFound.{some_first}
use Rattle.am_coverage.proofs.CoverageLaws.{coverage_exactly, receipt_exactly}
use Rattle.am_commands.proofs.laws.a_route_is_live_in_any_universe.Goals as goal

pub returns : goal.returns
returns _ = record {
  live = λ a s c path choice h texts e.
      some_is a s h texts (EndsAt c path) (some_first s (EndsAt c path) choice
      ((coverage_exactly s c path (route_is.Live choice)).1 e));
  entered = λ a s c path h texts e.
      some_is a s h texts (Enters c path) ((coverage_exactly s c path route_is.Entered).1 e).1;
  receiver = λ a s c receiver choice h texts e.
      some_is a s h texts (GoesTo c receiver) (some_first s (GoesTo c receiver) choice
      ((receipt_exactly s c receiver (Some choice)).1 e));
}
