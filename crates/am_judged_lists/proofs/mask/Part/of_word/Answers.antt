use Rattle.am_judged_lists.proofs.WordLemmas.{set_not}
use Rattle.am_judged_lists.proofs.mask.Part.of_word.Goals as goal

pub returns-in-Outside : goal.returns-in-Outside
returns-in-Outside c = λ k h. rw c.in-Outside.is (set_not c.args.mask k c.ranges.mask.fits h)
