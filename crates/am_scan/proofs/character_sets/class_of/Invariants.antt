-- The characters so far, each as a range.
use Rattle.std.proofs.Common.{◌≡◌, map, take}
use Rattle.am_scan.proofs.character_sets.class_of.Given as goal

abbrev pub invariant-loop-character : goal.invariant-loop-character
invariant-loop-character l = l.ranges.items ≡ map (λ c. (c, c)) (take l.character-index l.characters)
