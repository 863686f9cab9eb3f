-- The numbers of the states so far.
use Rattle.std.proofs.Common.{◌≡◌, length, vec_len}
use Rattle.am_scan.specs.Automaton.{Grows, AreNumbers}
use Rattle.am_scan.proofs.exploration.numbers_of.Given as goal

abbrev pub invariant-loop-other : goal.invariant-loop-other
invariant-loop-other l = record {
  grows : Grows l.fn.states.keys l.states.keys;
  count : vec_len l.numbers ≡ length l.yielded;
  each : AreNumbers l.states.keys l.yielded l.numbers.items;
}
