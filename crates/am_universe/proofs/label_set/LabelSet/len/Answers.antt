-- The keys in memory are distinct, so there is a label for each entry.
use Rattle.std.proofs.Common.{ap, sym, ◌∙◌, subst}
use Rattle.std.specs.FinMap as map
use Rattle.am_universe.specs.LabelSet.{HasTextsAlone}
use Rattle.am_universe.proofs.LabelMapLemmas.{len_kept}
use Rattle.am_universe.proofs.label_set.LabelSet.len.Goals as goal

pub returns-clause-len : goal.returns-clause-len
returns-clause-len c = c.len.ensures.len ∙ sym (len_kept c.self.inside.values c.len.ensures.ordered) ∙ ap map.len c.self.view_is

pub returns-clause-texts : goal.returns-clause-texts
returns-clause-texts c = subst HasTextsAlone c.self.view_is c.self.invariant
