use Rattle.std.proofs.Common.{List, length}
use Rattle.am_labels.specs.Matcher.{Matcher}
use Rattle.am_judged_lists.specs.Cube.{IsCubeOf}
use Rattle.am_first_sets.specs.PossibleSets.{possible_space}
use Rattle.am_outcomes.specs.Configurations.{Tried}
use Rattle.am_outcomes.specs.Steps.{GoesThrough}
use Rattle.am_outcomes.proofs.WaysFound.{AreWalked, weight}
use Rattle.am_outcomes.proofs.ways.unsorted_firsts.Given as goal

-- each choice is on one walk, or its way is found
abbrev pub invariant-loop-walk : goal.invariant-loop-walk
invariant-loop-walk l =
    (t : Tried) (ms : List Matcher) → GoesThrough l.universe t l.steps (length l.steps)
    → IsCubeOf l.universe ms l.cube
    → AreWalked (possible_space l.possible) ms t l.steps l.walks.items l.firsts.items

-- a walk is replaced by others that are nearer to the end
abbrev pub decreases-loop-walk : goal.decreases-loop-walk
decreases-loop-walk l = weight l.walks.items
