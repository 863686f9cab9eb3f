use Rattle.std.proofs.Common.{[], None, Contains, subst}
use Rattle.am_universe.specs.LabelSet.{LabelMap}
use Rattle.am_universe.proofs.ListLemmas.{IsIn-from_Contains}
use Rattle.am_labels.specs.Space.{Space}
use Rattle.am_labels.proofs.SpaceLaws.{none_of_empty_list, space_choices}
use Rattle.am_eval.specs.Reaching.{IsSetOf}
use Rattle.am_coverage.specs.declared.coverage.RouteCoverage.TheVariants as route_is
use Rattle.am_coverage.proofs.CoverageLaws.{coverage_exactly, receipt_exactly}
use Rattle.am_coverage.proofs.laws.an_empty_space_reaches_nothing.Goals as goal

no_set : (s : Space) (set : LabelMap) → Contains s.impossible [] → IsSetOf s set → ⊥
no_set s set empty is =
    IsIn-from_Contains [] is.0
    (subst (λ all. Contains all is.0) (none_of_empty_list s empty) ((space_choices s is.0).1 is.1))

pub returns : goal.returns
returns _ = record {
  routes = λ s c path empty.
      (coverage_exactly s c path route_is.NeverEntered).0 (λ set is h. no_set s set empty is);
  receivers = λ s c receiver empty.
      (receipt_exactly s c receiver None).0 (λ set is h. no_set s set empty is);
}
