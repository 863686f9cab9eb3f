use Rattle.std.proofs.Common.{◌≡◌}
use Rattle.am_universe.specs.Universe.{label_values_fault}
use Rattle.am_universe.specs.UniverseView.{texts_of}
use Rattle.am_universe.proofs.UniverseLemmas.{fault_from}
use Rattle.am_universe.proofs.universe.label_values_fault.Given as goal

abbrev pub invariant-loop-i : goal.invariant-loop-i
invariant-loop-i l = label_values_fault (texts_of l.values) ≡ fault_from l.values l.i
