use Rattle.std.proofs.Common.{◌∙◌}
use Rattle.am_labels.specs.Row.{row_of}
use Rattle.am_judged_lists.proofs.RowLemmas.{mapped_more}
use Rattle.am_judged_lists.proofs.rows.rows_of.Goals as goal

pub loop-i-preserved : goal.loop-i-preserved
loop-i-preserved c =
    c.in_ok-push.ensures.items
    ∙ mapped_more (row_of c.args.universe.now) c.args.matchers.now c.loop-i.i c.get.result.now
    c.loop-i.rows.items c.in_ok-row.field-0 c.loop-i.invariant c.get.ensures.matcher
    c.in_ok-row.ensures.row
