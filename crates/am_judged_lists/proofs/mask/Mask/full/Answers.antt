use Rattle.std.proofs.Common.{◌/◌, ◌∙◌, ap}
use Rattle.am_judged_lists.specs.declared.mask.TheConstants.{WORD}
use Rattle.am_judged_lists.proofs.WordLemmas.{full_at}
use Rattle.am_judged_lists.proofs.mask.Mask.full.Goals as goal

pub returns : goal.returns
returns c = λ j.
    let ones = c.in_ok-more.ensures.items_if_clones_equal (λ y h. h) in
    let enough = ap (λ n. n / WORD) c.saturating_sub.ensures in
    rw ones at (c.keep_bits.ensures.kept j) ∙ full_at c.args.size (c.saturating_sub.result / WORD) j enough
