use Rattle.std.proofs.Common.{arith, rules}
use Rattle.std.proofs.lemmas.Grind.{common_steps}
use Rattle.am_classes.specs.LabelTests.{with_place}
use Rattle.am_classes.proofs.naming.add_place.Goals as goal

pub returns-in_ok-push : goal.returns-in_ok-push
unfolding with_place
returns-in_ok-push c = first_of (search rules, grind (arith, common_steps))

pub returns-else-index-place : goal.returns-else-index-place
unfolding with_place
returns-else-index-place c = first_of (search rules, grind (arith, common_steps))
