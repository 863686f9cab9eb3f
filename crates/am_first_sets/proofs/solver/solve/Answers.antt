use Rattle.am_first_sets.proofs.MeetingLemmas.{if_none_more}
use Rattle.am_first_sets.proofs.SolverLemmas.{none_by_all}
use Rattle.am_first_sets.proofs.solver.solve.Goals as goal

pub returns-clause-none : goal.returns-clause-none
returns-clause-none c =
    if_none_more c.search.result _ _ (none_by_all c.args.start c.args.unwanted.now c.search.new.used)
    c.search.ensures.none
