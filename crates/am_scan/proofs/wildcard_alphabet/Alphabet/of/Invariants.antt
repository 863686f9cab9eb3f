-- The classes of the bytes so far.
use Rattle.am_scan.proofs.WildcardLemmas.{HaveClasses}
use Rattle.am_scan.proofs.wildcard_alphabet.Alphabet.of.Given as goal

abbrev pub invariant-loop-byte : goal.invariant-loop-byte
invariant-loop-byte l = HaveClasses l.places l.symbols.items l.classes.items l.byte
