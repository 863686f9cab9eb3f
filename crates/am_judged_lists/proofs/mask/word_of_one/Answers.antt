use Rattle.std.proofs.Common.{◌∙◌, sym}
use Rattle.am_judged_lists.proofs.WordLemmas.{one_there}
use Rattle.am_judged_lists.proofs.mask.word_of_one.Goals as goal

pub returns-then-position-i : goal.returns-then-position-i
returns-then-position-i c = λ j at. one_there c.args.position j (at ∙ sym c.if-position-i.true)
