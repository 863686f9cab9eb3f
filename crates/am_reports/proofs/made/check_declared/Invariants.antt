use Rattle.std.proofs.Common.{take}
use Rattle.am_outcomes.specs.Configurations.{configurations_of}
use Rattle.am_reports.specs.Made.{AreDeclaredWhole}
use Rattle.am_reports.proofs.made.check_declared.Given as goal

-- no label so far lacks a value
abbrev pub invariant-loop-i : goal.invariant-loop-i
invariant-loop-i l =
    AreDeclaredWhole l.fn.alphabet l.space (configurations_of l.configs) (take l.i l.space.labels)
