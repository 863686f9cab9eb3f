use Rattle.std.proofs.Common.{◌≤◌, map, length, string_bytes}
use Rattle.std.specs.Str.Iter.{split_text}
use Rattle.am_classes.specs.Alphabet.{IsOver}
use Rattle.am_complete.specs.Representatives.{GainsOnly}
use Rattle.am_complete.proofs.found_texts.push_words.Given as goal

-- the texts that were added are no longer than the pattern, nor is what is left of it
abbrev pub invariant-loop-piece : goal.invariant-loop-piece
invariant-loop-piece l = record {
  gains : GainsOnly (λ text. IsOver l.alphabet text × (length text ≤ length l.pattern))
      (map string_bytes l.fn.texts.items) (map string_bytes l.texts.items);
  left : length (split_text l.piece-iterator) ≤ length l.pattern;
}
