use Rattle.std.proofs.Common.{take}
use Rattle.std.specs.List.{flat_map}
use Rattle.am_universe.specs.Sink.{Wrote}
use Rattle.am_universe.specs.FaultText.{pointer_byte_text}
use Rattle.am_universe.proofs.fault_text.write_pointer.Given as goal

abbrev pub invariant-loop-byte : goal.invariant-loop-byte
invariant-loop-byte g l = Wrote g.W.Sink.taken g.W.Sink.failures l.fn.out l.out (flat_map pointer_byte_text (take l.byte-index l.byte-items))
