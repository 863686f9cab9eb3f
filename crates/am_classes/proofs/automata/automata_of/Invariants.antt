use Rattle.std.proofs.Common.{◌≡◌, map, take}
use Rattle.am_scan.specs.Automaton.{pattern_of}
use Rattle.am_classes.specs.Automata.{AreFor}
use Rattle.am_classes.proofs.automata.automata_of.Given as goal

abbrev pub invariant-loop-pattern : goal.invariant-loop-pattern
invariant-loop-pattern l = record {
  patterns : map pattern_of l.automata.items ≡ map (λ p. p.now) (take l.pattern-index l.patterns);
  fit : AreFor l.fn.bytes l.automata.items;
}
