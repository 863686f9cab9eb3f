-- The receiver of each route is declared.
use Rattle.std.proofs.Common.{arith}
use Rattle.std.proofs.lemmas.Grind.{common_steps}
use Rattle.am_eval.proofs.AbsentParts.{receiver_below}
use Rattle.am_commands.proofs.explanation.receiver_name_at.Goals as goal

pub receiver_name-requires : goal.receiver_name-requires
receiver_name-requires c = grind (arith, common_steps, receiver_below)
