use Rattle.std.proofs.Common.{refl}
use Rattle.am_eval.proofs.InhibitionExample.{firing_severity, firing_team, firing_region}
use Rattle.am_eval.proofs.laws.an_example_of_inhibition.Goals as goal

pub returns : goal.returns
returns c = record {
  same_team = λ s has. rw (has.0, has.1, firing_severity, firing_team) refl;
  other_team = λ s has. rw (has.0, has.1, firing_severity, firing_team) refl;
  no_region = λ s has region. rw (has.1, region, firing_severity, firing_region) refl;
  two_sided = λ s has. rw (has.0, has.1, firing_severity, firing_team) refl;
  one_sided = λ s has. rw (has.0, has.1, firing_severity, firing_team) refl;
  which = λ s has. rw (has.0, has.1, firing_severity, firing_team) refl;
}
