use Rattle.std.proofs.Common.{◌≡◌, map, take}
use Rattle.std.specs.List.{AllByRecursion}
use Rattle.am_universe.specs.Universe.{IsUniverse, names}
use Rattle.am_complete.specs.Missing.{IsWhole}
use Rattle.am_complete.proofs.made_universe.universe_of.Given as goal

-- the labels so far have the names so far, and their texts
abbrev pub invariant-loop-name : goal.invariant-loop-name
invariant-loop-name l = record {
  universe : IsUniverse l.universe;
  names : names l.universe ≡ take l.name-index (map (λ n. n.now) l.named);
  whole : AllByRecursion (IsWhole l.space l.missing) l.universe;
}
