use Rattle.std.proofs.Common.{chars, map, string_bytes, take}
use Rattle.std.specs.List.{AllByRecursion}
use Rattle.am_scan.specs.Characters.{IsAlone, Narrows}
use Rattle.am_classes.proofs.enough_bytes.add_texts.Given as goal

abbrev pub invariant-loop-text : goal.invariant-loop-text
invariant-loop-text l = record {
  narrows : Narrows l.initial.sets l.sets;
  alone : AllByRecursion (λ text. AllByRecursion (IsAlone l.sets) (chars text))
      (map string_bytes (take l.text-index l.texts));
}
