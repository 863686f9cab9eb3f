use Rattle.std.proofs.Common.{refl}
use Rattle.am_eval.proofs.laws.an_example_of_ends_and_enters.Goals as goal

pub returns : goal.returns
returns _ = record {
  entered = λ w s is has. rw (is, has.0, has.1) refl;
  not_ended = λ w s is has. rw (is, has.0, has.1) refl;
  below = λ w s is has. rw (is, has.0, has.1) refl;
}
