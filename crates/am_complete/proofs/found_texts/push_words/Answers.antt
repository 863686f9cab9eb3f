use Rattle.std.proofs.Common.{◌≤◌, ◌+◌, length, map, string_bytes, ap, arith}
use Rattle.std.specs.Str.Iter.{split_text}
use Rattle.am_classes.specs.Alphabet.{IsOver}
use Rattle.am_complete.specs.Representatives.{GainsOnly}
use Rattle.am_complete.proofs.RepresentativeTexts.{more_gained}
use Rattle.am_complete.proofs.found_texts.push_words.Goals as goal
use Rattle.am_complete.proofs.found_texts.push_words.Goals.{After-push_runs, then-escaped, else-escaped}

-- the piece is no longer than what was left of the pattern
gains : (c : After-push_runs)
    → GainsOnly (λ text. IsOver c.args.alphabet text × (length text ≤ length c.args.pattern.now))
    (map string_bytes c.args.texts.now.items) (map string_bytes c.push_runs.new.texts.items)
gains c =
    let bound : length c.in-Some.piece.now + length (split_text c.next.new.self)
    ≤ length (split_text c.loop-piece.piece-iterator) = c.in-Some.ensures.steps.1.1.0 in
    let short : length c.if-escaped.piece.now ≤ length c.in-Some.piece.now = elim c.if-escaped.branch [
      | then-escaped w ↦ omega (arith, w.behind_first-piece.ensures, ap (λ p. length p.now) w.piece-is)
      | else-escaped w ↦ omega (arith, ap (λ p. length p.now) w.piece-is)
    ] in
    more_gained (λ text. IsOver c.args.alphabet text × (length text ≤ length c.args.pattern.now)) _
    (map string_bytes c.args.texts.now.items) (map string_bytes c.loop-piece.texts.items)
    (map string_bytes c.push_runs.new.texts.items) c.loop-piece.invariant.gains
    (λ x more. (more.0, omega (arith, more.1, short, bound, c.loop-piece.invariant.left)))
    c.push_runs.ensures

pub loop-piece-preserved : goal.loop-piece-preserved
loop-piece-preserved c =
    let bound : length c.in-Some.piece.now + length (split_text c.next.new.self)
    ≤ length (split_text c.loop-piece.piece-iterator) = c.in-Some.ensures.steps.1.1.0 in
    record {
      gains = gains (goal.at.loop-piece-preserved c).After-push_runs;
      left = omega (arith, bound, c.loop-piece.invariant.left);
    }

pub returns-in_err-push_runs : goal.returns-in_err-push_runs
returns-in_err-push_runs c = gains (goal.at.returns-in_err-push_runs c).After-push_runs
