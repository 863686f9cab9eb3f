-- The pieces of the parts so far.
use Rattle.std.proofs.Common.{take}
use Rattle.am_scan.specs.Characters.{AreSplit}
use Rattle.am_scan.proofs.character_sets.split.Given as goal

abbrev pub invariant-loop-part : goal.invariant-loop-part
invariant-loop-part l = AreSplit (take l.part-index l.parts) l.set.ranges.items l.pieces.items
