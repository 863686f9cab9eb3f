use Rattle.std.proofs.Common.{arith, append_assoc}
use Rattle.std.proofs.lemmas.Grind.{common_steps}
use Rattle.am_universe.proofs.Members.{left_at}
use Rattle.am_complete.proofs.LabelStates.{stands_at}
use Rattle.am_complete.proofs.made_universe.open_positions.Goals as goal

pub loop-i-preserved : goal.loop-i-preserved
loop-i-preserved c = grind (arith, common_steps, stands_at, left_at, append_assoc)
