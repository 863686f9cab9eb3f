use Rattle.std.proofs.Common.{◌&&◌, false, get_or, ap, ◌∙◌}
use Rattle.am_judged_lists.proofs.WordLemmas.{out_there}
use Rattle.am_judged_lists.proofs.mask.Mask.keep_if.Goals as goal

pub returns-then-not-kept : goal.returns-then-not-kept
returns-then-not-kept c = λ k.
    rw c.if-not-kept.true (c.keep_bits.ensures.kept k
    ∙ ap (λ b. get_or c.args.self.now k false && b) (out_there c.args.j k))
