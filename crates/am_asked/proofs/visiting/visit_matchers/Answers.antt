use Rattle.am_asked.proofs.PlacedSteps.{one_more_matcher}
use Rattle.am_asked.proofs.visiting.visit_matchers.Goals as goal

pub loop-i-preserved : goal.loop-i-preserved
loop-i-preserved g c =
    one_more_matcher g.V.Visitor.after c.args.origin.now c.args.matchers.now c.loop-i.i
    c.get.result.now c.loop-i.visitor _ _ c.get.ensures.matcher c.in_ok-visit.ensures.visit
    c.loop-i.invariant
