use Rattle.am_judged_lists.specs.Boxes.{IsInBox}
use Rattle.am_first_sets.proofs.MeetingLemmas.{wanted_none}
use Rattle.am_first_sets.proofs.possible_choices.PossibleChoices.matched.Goals as goal

pub returns-then-not-keep_matching-clause-none : goal.returns-then-not-keep_matching-clause-none
returns-then-not-keep_matching-clause-none c = λ d start.
    wanted_none (IsInBox c.args.self.now.all d) c.loop-cube.positions c.args.wanted.now
    c.loop-cube.cube-index c.cube-item.result d c.loop-cube-test.true c.cube-item.is
    (c.loop-cube.invariant d) (c.keep_matching.ensures.none c.if-not-keep_matching.true) start
