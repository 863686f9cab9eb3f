use Rattle.am_first_sets.proofs.CubeTruth.{knows_possible}
use Rattle.am_first_sets.proofs.possible_sets.PossibleSets.of.Goals as goal

pub invariant_of-result : goal.invariant_of-result
invariant_of-result c =
    record {
      are_choices = record {
        long = rw c.universe.ensures.labels at c.in_ok-all.ensures.long;
        whole = rw c.universe.ensures.labels at c.in_ok-all.ensures.all;
        possible = knows_possible c.args.space.now c.in_ok-impossible.impossible.items
            c.in_ok-impossible.ensures.verdicts;
      };
    }
