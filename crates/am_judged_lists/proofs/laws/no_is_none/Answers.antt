use Rattle.std.proofs.Common.{[]}
use Rattle.am_universe.specs.Universe.{sizes}
use Rattle.am_universe.specs.Completions.{completions}
use Rattle.am_judged_lists.specs.Verdicts.{matches_at}
use Rattle.am_judged_lists.proofs.VerdictLemmas.{no_exactly}
use Rattle.am_judged_lists.proofs.CubeLemmas.{some_completion}
use Rattle.am_judged_lists.proofs.BuildLemmas.{have_values}
use Rattle.am_judged_lists.proofs.laws.no_is_none.Goals as goal

pub returns : goal.returns
returns c = record {
  exactly = λ u ms prefix h admitted.
      let some = some_completion (sizes u) prefix [] (have_values u h) admitted in
      no_exactly (matches_at u ms) (completions (sizes u) prefix) some.0 some.1;
}
