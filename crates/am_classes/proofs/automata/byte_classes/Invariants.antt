use Rattle.std.proofs.Common.{take}
use Rattle.am_classes.specs.Automata.{AreClasses}
use Rattle.am_classes.proofs.automata.byte_classes.Given as goal

abbrev pub invariant-loop-automaton : goal.invariant-loop-automaton
invariant-loop-automaton l = AreClasses (take l.automaton-index l.automata) l.classes
