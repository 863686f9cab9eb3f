use Rattle.std.proofs.Common.{None, subst}
use Rattle.am_eval.specs.Reaching.{GoesTo}
use Rattle.am_eval.proofs.SimpleParts.{end_of_receiver, receiver_of_end}
use Rattle.am_coverage.proofs.CoverageLaws.{receipt_exactly}
use Rattle.am_coverage.proofs.laws.an_unmatched_receiver_has_dead_routes_alone.Goals as goal

pub returns : goal.returns
returns _ = record {
  unmatched = λ s c receiver. receipt_exactly s c receiver None;
  dead_routes = λ s c receiver. (
    λ unmatched path t at is set occurs h.
        unmatched set occurs
        (subst (λ n. GoesTo c n set) is (receiver_of_end set c path t h at)),
    λ dead set occurs h.
        let r = end_of_receiver set c receiver h in dead r.0 r.1 r.3 r.4 set occurs r.2,
  );
}
