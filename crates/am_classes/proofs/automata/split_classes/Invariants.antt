use Rattle.std.proofs.Common.{◌≡◌, ◌<◌, ◌∷◌, ◌++◌, [], ℕ, List, Some, slice_get, length}
use Rattle.am_scan.specs.declared.pattern_automaton.PatternAutomaton.{PatternAutomaton}
use Rattle.am_classes.specs.Automata.{AreClasses, MakeSame}
use Rattle.am_classes.proofs.automata.split_classes.Given as goal

abbrev pub invariant-loop-byte : goal.invariant-loop-byte
invariant-loop-byte l = record {
  count : length l.split ≡ 256;
  each : (automata : List PatternAutomaton) → AreClasses automata l.classes
      → (byte class : ℕ) → byte < l.byte → slice_get l.split byte ≡ Some class
      → MakeSame (automata ++ l.automaton ∷ []) class byte;
}
