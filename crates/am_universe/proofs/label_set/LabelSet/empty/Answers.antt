use Rattle.am_universe.proofs.LabelMapLemmas.{HasTextsAlone-of_none}
use Rattle.am_universe.proofs.label_set.LabelSet.empty.Goals as goal

pub invariant_of-result : goal.invariant_of-result
invariant_of-result c = HasTextsAlone-of_none _ c.new.ensures.empty
