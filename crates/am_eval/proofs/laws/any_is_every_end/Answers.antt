use Rattle.std.proofs.Common.{refl}
use Rattle.am_universe.proofs.ListLemmas.{Contains-from_IsIn}
use Rattle.am_eval.specs.Routing.{ends}
use Rattle.am_eval.proofs.EndLaws.{somewhere}
use Rattle.am_eval.proofs.ListTests.{one_of}
use Rattle.am_eval.proofs.SimpleParts.{test_from_end}
use Rattle.am_eval.proofs.laws.any_is_every_end.Goals as goal

pub returns : goal.returns
returns _ = record {
  same = λ w s sound. (
    λ h.
        let all = ends s w.config in
        let first = one_of all (somewhere w.config s sound) in
        (first.0, test_from_end first.0 all (Contains-from_IsIn all first.0 first.1)),
    λ h. refl,
  );
}
