use Rattle.am_search.proofs.WalkSteps.{walk_begins}
use Rattle.am_search.proofs.answers.Answers.from.Goals as goal

pub invariant_of-result-clause-walk : goal.invariant_of-result-clause-walk
invariant_of-result-clause-walk g c =
    walk_begins c.args.start (g.met.J.Judge.laws c.args.judge.now) _ c.first_choice-along.ensures c.first_stage-stage.ensures c.empty.ensures.no_position c.new.ensures.nothing c.new-2.ensures.nothing
