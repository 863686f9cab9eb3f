-- If the characters that are left stand by themselves, all do.
use Rattle.std.specs.Prelude.{IsUtf8, chars}
use Rattle.std.specs.List.{AllByRecursion}
use Rattle.am_scan.specs.declared.character_sets.CharacterSets.{CharacterSets}
use Rattle.am_scan.specs.Characters.{IsAlone, Narrows}
use Rattle.am_scan.proofs.character_sets.CharacterSets.add_text.Given as goal

abbrev pub invariant-loop-character : goal.invariant-loop-character
invariant-loop-character l = record {
  narrows : Narrows l.fn.self l.self;
  left : IsUtf8 l.character-iterator.rest.now;
  alone : (t : CharacterSets) → Narrows l.self t → AllByRecursion (IsAlone t) (chars l.character-iterator.rest.now)
      → AllByRecursion (IsAlone t) (chars l.text);
}
