-- The label sets of the labels so far are no more than those of all labels.
use Rattle.std.proofs.Common.{◌^◌}
use Rattle.am_universe.specs.Universe.{sizes}
use Rattle.am_universe_command.proofs.LabelSets.{one_size_more, too_many}
use Rattle.am_universe_command.proofs.check_lines.label_sets.Goals as goal

pub loop-i-preserved : goal.loop-i-preserved
loop-i-preserved c =
    one_size_more (sizes c.args.universe.now) c.loop-i.i c.size.result c.loop-i.count _
    c.size.ensures.size c.loop-i.invariant c.in_ok-count.ensures.1

pub returns-in_err-count : goal.returns-in_err-count
returns-in_err-count c = rw c.from_residual.ensures
    (too_many c.args.universe.now c.loop-i.i c.size.result c.loop-i.count (2 ^ 64)
    c.len-i-end.ensures.universe.labels c.size.ensures.size c.loop-i.invariant
    c.in_err-count.ensures)
