-- The parts so far ask nothing of alike characters.
use Rattle.std.proofs.Common.{map, take}
use Rattle.std.specs.List.{AllByRecursion}
use Rattle.regex_hir.specs.Meaning.{meaning}
use Rattle.am_scan.specs.Characters.{IsBlind, Narrows}
use Rattle.am_scan.proofs.character_sets.CharacterSets.+add_tree.Given as goal

abbrev pub invariant-add_trees-loop-i : goal.invariant-add_trees-loop-i
invariant-add_trees-loop-i l = record {
  narrows : Narrows l.fn.self l.self;
  blind : AllByRecursion (IsBlind l.self) (map meaning (take l.i l.trees));
}
