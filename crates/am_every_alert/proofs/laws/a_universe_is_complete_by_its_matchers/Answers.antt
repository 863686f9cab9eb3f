use Rattle.am_every_alert.proofs.CompleteSpaces.{complete_by_names, complete_for_some}
use Rattle.am_every_alert.proofs.CompleteSpaces.{complete_at_for_some}
use Rattle.am_every_alert.proofs.laws.a_universe_is_complete_by_its_matchers.Goals as goal

pub returns : goal.returns
returns c = record {
  by_labels = complete_by_names;
  part = complete_for_some;
  part_at = complete_at_for_some;
}
