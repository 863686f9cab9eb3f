use Rattle.am_universe.proofs.ListLemmas.{AllByRecursion-at}
use Rattle.am_universe.specs.LabelSet.{value_of}
use Rattle.am_complete.specs.Complete.{HasAlike}
use Rattle.am_every_alert.proofs.StandingChoice.{standing_choice}
use Rattle.am_every_alert.proofs.laws.each_label_set_has_a_choice.Goals as goal

pub returns : goal.returns
returns c = record {
  stands = λ u ms s h each. standing_choice u ms s h (λ m i.
      AllByRecursion-at (λ n. HasAlike u ms n.name (value_of s n.name)) ms m each i);
}
