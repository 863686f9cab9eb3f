use Rattle.std.proofs.Common.{◌≡◌, drop}
use Rattle.am_scan.specs.Automaton.{number_of}
use Rattle.am_classes.proofs.finder.accepts.Given as goal

abbrev pub invariant-loop-i : goal.invariant-loop-i
invariant-loop-i l = l.number ≡ number_of l.automaton (drop l.i l.bytes)
