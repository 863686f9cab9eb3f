-- No answer is kept yet.
use Rattle.std.proofs.Common.{arith}
use Rattle.std.proofs.lemmas.Grind.{common_steps}
use Rattle.am_labels.specs.PatternView.{has_match}
use Rattle.am_labels.proofs.pattern.Search.new.Goals as goal

pub invariant_of-result : goal.invariant_of-result
invariant_of-result c =
    (grind (arith, common_steps), c.new-3.ensures (has_match c.args.nfa.now))
