use Rattle.std.proofs.Common.{arith}
use borrow.Author.Tests.{ltb-true, ltb-false}
use Rattle.std.proofs.lemmas.Option.{slice_get_read, slice_get_past}
use Rattle.std.proofs.lemmas.Grind.{common_steps}
use Rattle.am_config.proofs.Paths.{goes_down_to, no_child}
use Rattle.am_config.proofs.config.Config.at.Goals as goal

pub returns-in_err-route-clause-none : goal.returns-in_err-route-clause-none
returns-in_err-route-clause-none c =
    grind (arith, common_steps, no_child, slice_get_past, ltb-false)

pub loop-i-preserved : goal.loop-i-preserved
loop-i-preserved c = grind (arith, common_steps, goes_down_to, slice_get_read, ltb-true)
