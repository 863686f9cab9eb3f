use Rattle.std.proofs.Common.{arith}
use Rattle.am_outcomes.proofs.BoxLeast.{least_first}
use Rattle.am_outcomes.proofs.box_firsts.first_in.Goals as goal

pub returns-clause-least : goal.returns-clause-least
returns-clause-least c = λ d inside.
    least_first c.args.positions.now c.loop-label.choice d c.loop-label.invariant.least
    (omega (
      arith,
      c.loop-label.invariant.long,
      c.loop-label-test.false,
      c.loop-label.auto.label-end,
      c.len.ensures,
      c.len-2.ensures.len,
      c.if-len.false,
      c.len-label-end.ensures.len,
    ))
    inside
