use Rattle.std.proofs.Common.{◌≡◌, true, false, ◌++◌, []}
use Rattle.am_universe.specs.Universe.{sizes}
use Rattle.am_universe.specs.Completions.{completions}
use Rattle.am_judged_lists.specs.Verdicts.{matches_at}
use Rattle.am_judged_lists.proofs.Completed.{completion_of_front, each_completion}
use Rattle.am_judged_lists.proofs.VerdictLemmas.{yes_exactly, no_exactly}
use Rattle.am_judged_lists.proofs.CubeLemmas.{some_completion}
use Rattle.am_judged_lists.proofs.BuildLemmas.{have_values}
use Rattle.am_judged_lists.proofs.laws.a_decided_list_stays_decided.Goals as goal

pub returns-clause-yes : goal.returns-clause-yes
returns-clause-yes c = λ u ms prefix more e.
    let test = matches_at u ms in
    let short = completions (sizes u) prefix in
    let long = completions (sizes u) (prefix ++ more) in
    (yes_exactly test long).1
    (each_completion (λ d. test d ≡ true) (sizes u) prefix more ((yes_exactly test short).0 e))

pub returns-clause-no : goal.returns-clause-no
returns-clause-no c = λ u ms prefix more h admitted e.
    let test = matches_at u ms in
    let short = completions (sizes u) prefix in
    let long = completions (sizes u) (prefix ++ more) in
    let some = some_completion (sizes u) (prefix ++ more) [] (have_values u h) admitted in
    let some_short = completion_of_front (sizes u) prefix more some.0 some.1 in
    (no_exactly test long some.0 some.1).1
    (each_completion (λ d. test d ≡ false) (sizes u) prefix more
    ((no_exactly test short some.0 some_short).0 e))
