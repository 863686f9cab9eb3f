use Rattle.std.proofs.Common.{rules}
use Rattle.am_first_sets.specs.PossibleSets.{possible_space}
use Rattle.am_outcomes.specs.MatchedPart.{matched_part}
use Rattle.am_outcomes.proofs.WaysFound.{permuted, sorted_by_closure}
use Rattle.am_outcomes.proofs.ways.firsts_of_ways.Goals as goal

pub returns-clause-firsts : goal.returns-clause-firsts
returns-clause-firsts c = λ t goes.
    permuted (matched_part (possible_space c.args.possible.now) c.args.among.now) t
    c.in-Some.firsts.items c.sort_unstable_by.new.self.items
    c.sort_unstable_by.ensures.permutation
    (rw c.in-Some.is at c.in_ok-found.ensures.firsts t c.args.among.now goes
    c.in_ok-cube.ensures.exact)

pub returns-clause-sorted : goal.returns-clause-sorted
returns-clause-sorted c =
    sorted_by_closure _ c.sort_unstable_by.ensures.sorted (λ a r q k. search rules)
