use Rattle.std.proofs.Common.{arith}
use Rattle.am_differences.proofs.ValueSteps.{other_length}
use Rattle.am_differences.proofs.values.+same.Goals as goal

pub same_items-returns-then-ones-others : goal.same_items-returns-then-ones-others
same_items-returns-then-ones-others t c =
    other_length c.args.ones.now c.args.others.now (λ e. omega arith)
