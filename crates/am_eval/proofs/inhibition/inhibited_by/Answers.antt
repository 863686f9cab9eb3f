use Rattle.std.proofs.Common.{arith}
use Rattle.std.proofs.lemmas.List.{take_all}
use Rattle.std.proofs.lemmas.Grind.{common_steps}
use Rattle.am_eval.proofs.Inhibitors.{position, inhibitors_of_pairs}
use Rattle.am_eval.proofs.inhibition.inhibited_by.Goals as goal

pub returns : goal.returns
returns c = grind (arith, common_steps, take_all, position, inhibitors_of_pairs)
