use Rattle.std.proofs.Common.{◌≡◌, take}
use Rattle.am_universe.specs.Universe.{sizes}
use Rattle.am_universe_command.specs.CheckLines.{label_sets}
use Rattle.am_universe_command.proofs.check_lines.label_sets.Given as goal

abbrev pub invariant-loop-i : goal.invariant-loop-i
invariant-loop-i l = l.count ≡ label_sets (take l.i (sizes l.universe))
