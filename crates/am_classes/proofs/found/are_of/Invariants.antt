use Rattle.std.proofs.Common.{◌≡◌, map, take}
use Rattle.am_scan.specs.Automaton.{pattern_of}
use Rattle.am_classes.proofs.found.are_of.Given as goal

abbrev pub invariant-loop-i : goal.invariant-loop-i
invariant-loop-i l = map pattern_of (take l.i l.automata) ≡ map (λ p. p.now) (take l.i l.patterns)
