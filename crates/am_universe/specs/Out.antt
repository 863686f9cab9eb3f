-- What contracts see of an `Out`, a sink over a writer.
use Rattle.std.specs.Prelude.{ℕ, List, length}
use Rattle.std.specs.declared.io.traits.Write.{Ghosts}
use Rattle.am_universe.specs.declared.out.Out.{Out}

module _ {W : Type 0} {w : Ghosts W} where
  -- The bytes that its writer said it took.
  abbrev pub out_taken : Out W w → List ℕ
  out_taken o = o.taken.items

  -- How many writes failed or took nothing.
  abbrev pub out_failures : Out W w → ℕ
  out_failures o = length o.failures.items

  -- The writer as it was at the start.
  abbrev pub out_start : Out W w → W
  out_start o = o.start.value
