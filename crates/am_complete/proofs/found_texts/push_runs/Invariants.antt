use Rattle.std.proofs.Common.{◌≤◌, map, length, string_bytes}
use Rattle.std.specs.Str.Iter.{split_text}
use Rattle.am_classes.specs.Alphabet.{IsOver}
use Rattle.am_complete.specs.Representatives.{GainsOnly}
use Rattle.am_complete.proofs.found_texts.push_runs.Given as goal

-- the texts that were added are no longer than the piece, nor is what is left of it
abbrev pub invariant-loop-word : goal.invariant-loop-word
invariant-loop-word l = record {
  gains : GainsOnly (λ text. IsOver l.alphabet text × (length text ≤ length l.piece))
      (map string_bytes l.fn.texts.items) (map string_bytes l.texts.items);
  left : length (split_text l.word-iterator) ≤ length l.piece;
}
