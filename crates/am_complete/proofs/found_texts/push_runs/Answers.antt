use Rattle.std.proofs.Common.{◌≤◌, ◌+◌, length, map, string_bytes, ap, arith}
use Rattle.std.specs.Str.Iter.{split_text}
use Rattle.am_classes.specs.Alphabet.{IsOver}
use Rattle.am_complete.specs.Representatives.{GainsOnly}
use Rattle.am_complete.proofs.RepresentativeTexts.{more_gained}
use Rattle.am_complete.proofs.found_texts.push_runs.Goals as goal
use Rattle.am_complete.proofs.found_texts.push_runs.Goals.{After-push_new}

-- the word is no longer than what was left of the piece
gains : (c : After-push_new)
    → GainsOnly (λ text. IsOver c.args.alphabet text × (length text ≤ length c.args.piece.now))
    (map string_bytes c.args.texts.now.items) (map string_bytes c.push_new.new.texts.items)
gains c =
    let bound : length c.in-Some.word.now + length (split_text c.next.new.self)
    ≤ length (split_text c.loop-word.word-iterator) = c.in-Some.ensures.steps.1.1.0 in
    more_gained (λ text. IsOver c.args.alphabet text × (length text ≤ length c.args.piece.now)) _
    (map string_bytes c.args.texts.now.items) (map string_bytes c.loop-word.texts.items)
    (map string_bytes c.push_new.new.texts.items) c.loop-word.invariant.gains
    (λ x more. (more.0, omega (arith, ap length more.1, bound, c.loop-word.invariant.left)))
    c.push_new.ensures

pub loop-word-preserved-in-Continue-1 : goal.loop-word-preserved-in-Continue-1
loop-word-preserved-in-Continue-1 c =
    let bound : length c.in-Some.word.now + length (split_text c.next.new.self)
    ≤ length (split_text c.loop-word.word-iterator) = c.in-Some.ensures.steps.1.1.0 in
    record {
      gains = gains (goal.at.loop-word-preserved-in-Continue-1 c).After-push_new;
      left = omega (arith, bound, c.loop-word.invariant.left);
    }

pub returns-in_err-push_new : goal.returns-in_err-push_new
returns-in_err-push_new c = gains (goal.at.returns-in_err-push_new c).After-push_new
