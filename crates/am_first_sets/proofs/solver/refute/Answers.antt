use Rattle.am_first_sets.proofs.SolverLemmas.{some_choice}
use Rattle.am_first_sets.proofs.solver.refute.Goals as goal

pub returns-in-Some-clause-found : goal.returns-in-Some-clause-found
returns-in-Some-clause-found c =
    let answer = rw c.in-Some.is at c.in_ok-search.ensures.found in
    let r = some_choice c.in-Some.field-0 answer.some in
    (r.0, answer.inside r.0 r.1, answer.avoided r.0 r.1)
