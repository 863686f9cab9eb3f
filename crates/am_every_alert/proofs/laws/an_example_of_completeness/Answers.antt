use Rattle.am_every_alert.proofs.CompleteExample.{complete, incomplete, possible, over_ascii}
use Rattle.am_every_alert.proofs.CompleteExample.{not_over_unicode}
use Rattle.am_every_alert.proofs.laws.an_example_of_completeness.Goals as goal

pub returns : goal.returns
returns c = record {
  complete = complete;
  incomplete = incomplete;
  possible = possible;
  over_ascii = over_ascii;
  not_over_unicode = not_over_unicode;
}
