use Rattle.std.proofs.Common.{[], map, string_bytes}
use Rattle.std.specs.List.{AllByRecursion}
use Rattle.std.specs.Option.{option_map_or}
use Rattle.am_classes.specs.Alphabet.{AreOver}
use Rattle.am_complete.specs.Representatives.{IsUsual}
use Rattle.am_complete.proofs.usual_texts.usual_texts.Given as goal

-- the texts so far are over the alphabet, and usual
abbrev pub invariant-loop-pair : goal.invariant-loop-pair
invariant-loop-pair l = record {
  over : AreOver l.alphabet (map string_bytes l.texts.items);
  usual : AllByRecursion (IsUsual (option_map_or (λ a. a.now) l.alerts []) l.name)
      (map string_bytes l.texts.items);
}
