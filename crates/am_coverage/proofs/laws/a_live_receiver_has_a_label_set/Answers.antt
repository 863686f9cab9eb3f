use Rattle.std.proofs.Common.{Some}
use Rattle.am_coverage.proofs.CoverageLaws.{receipt_told, receipt_exactly}
use Rattle.am_coverage.proofs.laws.a_live_receiver_has_a_label_set.Goals as goal

pub returns : goal.returns
returns _ = record {
  told = receipt_told;
  first = λ s c receiver choice. receipt_exactly s c receiver (Some choice);
}
