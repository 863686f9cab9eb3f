use Rattle.std.proofs.Common.{map, take}
use Rattle.std.specs.List.{AllByRecursion}
use Rattle.am_scan.specs.Characters.{CannotTell}
use Rattle.am_classes.proofs.enough_bytes.add_patterns.Given as goal

abbrev pub invariant-loop-pattern : goal.invariant-loop-pattern
invariant-loop-pattern l =
    AllByRecursion (CannotTell l.sets) (map (λ p. p.now) (take l.pattern-index l.patterns))
