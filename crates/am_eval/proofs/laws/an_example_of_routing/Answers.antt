use Rattle.std.proofs.Common.{refl}
use Rattle.am_eval.proofs.laws.an_example_of_routing.Goals as goal

pub returns : goal.returns
returns _ = record {
  none = λ s has. (rw (has.0, has.1) refl, rw (has.0, has.1) refl);
  db = λ s has. (rw (has.0, has.1) refl, rw (has.0, has.1) refl);
  critical = λ s has. (rw (has.0, has.1) refl, rw (has.0, has.1) refl);
  both = λ s has. (rw (has.0, has.1) refl, rw (has.0, has.1) refl);
}
