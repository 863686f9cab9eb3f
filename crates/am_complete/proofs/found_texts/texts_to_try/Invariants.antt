use Rattle.std.proofs.Common.{[], true, map, string_bytes}
use Rattle.std.specs.List.{AllByRecursion}
use Rattle.std.specs.Option.{option_map_or}
use Rattle.am_classes.specs.Alphabet.{AreOver}
use Rattle.am_complete.specs.Representatives.{IsRepresentative}
use Rattle.am_complete.proofs.found_texts.texts_to_try.Given as goal

-- the texts so far are over the alphabet, and may be tried
abbrev pub invariant-loop-matcher : goal.invariant-loop-matcher
invariant-loop-matcher l = record {
  over : AreOver l.alphabet (map string_bytes l.texts.items);
  so : AllByRecursion (IsRepresentative true l.alphabet (option_map_or (λ a. a.now) l.alerts [])
      l.label.name l.label.matchers) (map string_bytes l.texts.items);
}

abbrev pub invariant-loop-text : goal.invariant-loop-text
invariant-loop-text l = record {
  over : AreOver l.alphabet (map string_bytes l.texts.items);
  so : AllByRecursion (IsRepresentative true l.alphabet (option_map_or (λ a. a.now) l.alerts [])
      l.label.name l.label.matchers) (map string_bytes l.texts.items);
}

abbrev pub invariant-loop-matcher-2 : goal.invariant-loop-matcher-2
invariant-loop-matcher-2 l = record {
  over : AreOver l.alphabet (map string_bytes l.texts.items);
  so : AllByRecursion (IsRepresentative true l.alphabet (option_map_or (λ a. a.now) l.alerts [])
      l.label.name l.label.matchers) (map string_bytes l.texts.items);
}
