use Rattle.std.proofs.Common.{arith, sym}
use Rattle.std.proofs.lemmas.Grind.{common_steps}
use Rattle.std.proofs.lemmas.Str.{IsCharBoundary-after_ascii}
use Rattle.am_questions.proofs.Boundaries.{behind_brace}
use Rattle.am_questions.proofs.lexemes.read_lexeme.Goals as goal

pub range_from-requires : goal.range_from-requires
range_from-requires c =
    λ _. IsCharBoundary-after_ascii c.args.text.now 0 c.utf8.text (grind (arith, common_steps))
    (grind (arith, common_steps))

pub range_from-requires-in-41 : goal.range_from-requires-in-41
range_from-requires-in-41 c =
    λ _. IsCharBoundary-after_ascii c.args.text.now 0 c.utf8.text (grind (arith, common_steps))
    (grind (arith, common_steps))

pub range_from-requires-in-34 : goal.range_from-requires-in-34
range_from-requires-in-34 c =
    λ _. IsCharBoundary-after_ascii c.args.text.now 0 c.utf8.text (grind (arith, common_steps))
    (grind (arith, common_steps))

pub range-requires-clause-end_boundary : goal.range-requires-clause-end_boundary
range-requires-clause-end_boundary c =
    behind_brace c.args.text.now c.in-Some.len c.utf8.text (sym c.in-Some.ensures.len)
