-- The kinds by the sets so far.
use Rattle.std.proofs.Common.{take}
use Rattle.am_scan.specs.Characters.{AreParts}
use Rattle.am_scan.proofs.character_sets.CharacterSets.parts.Given as goal

abbrev pub invariant-loop-set : goal.invariant-loop-set
invariant-loop-set l = AreParts (take l.set-index l.self.sets.items) l.self.singles.items l.parts.items
