use Rattle.std.proofs.Common.{refl}
use Rattle.am_eval.proofs.laws.an_example_of_silencing.Goals as goal

pub returns : goal.returns
returns c = record {
  begun = λ s has. rw (has.0) refl;
  ended = λ s has. refl;
  other = λ s has. rw (has.0) refl;
  no_instant = λ s has. refl;
}
