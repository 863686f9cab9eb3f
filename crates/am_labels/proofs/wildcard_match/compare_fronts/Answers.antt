-- What is left of both decides.
use Rattle.std.proofs.Common.{ap, ◌∙◌, ◌∷◌, sym, arith}
use Rattle.am_labels.specs.Wildcards.{pieces_of}
use Rattle.am_labels.proofs.WildcardFronts.{passed_byte, left_decides, first_differs, nothing_left}
use Rattle.am_labels.proofs.wildcard_match.compare_fronts.Goals as goal

pub returns-in_default-text-clause-front : goal.returns-in_default-text-clause-front
returns-in_default-text-clause-front c =
    left_decides _ _ _ _ c.loop-piece.invariant.0
    ∙ first_differs _ _ c.in-Byte.byte c.loop-piece.text.now
    (c.in-Some.ensures.first ∙ ap (λ p. p ∷ pieces_of c.in-Some.pieces.now) c.in-Byte.is)
    (λ some. absurd (omega (arith, some, c.in_default-text.len_below)))

pub returns-then-first-byte-clause-front : goal.returns-then-first-byte-clause-front
returns-then-first-byte-clause-front c =
    left_decides _ _ _ _ c.loop-piece.invariant.0
    ∙ first_differs _ _ c.in-Byte.byte c.loop-piece.text.now
    (c.in-Some.ensures.first ∙ ap (λ p. p ∷ pieces_of c.in-Some.pieces.now) c.in-Byte.is)
    (λ _. c.if-first-byte.true)

pub loop-piece-preserved : goal.loop-piece-preserved
loop-piece-preserved c = (
  passed_byte _ _ _ c.loop-piece.text.now c.in-Some.pieces.now c.in-Byte.byte c.loop-piece.invariant.0
      (c.in-Some.ensures.first ∙ ap (λ p. p ∷ pieces_of c.in-Some.pieces.now) c.in-Byte.is)
      c.in-len1-up.len_at_least c.if-first-byte.false,
  omega (arith, c.in-Some.ensures.shorter),
)

pub returns-then-is_empty-clause-front : goal.returns-then-is_empty-clause-front
returns-then-is_empty-clause-front c =
    left_decides _ _ _ _ c.loop-piece.invariant.0
    ∙ nothing_left _ _ c.in_default.ensures.first ∙ sym c.is_empty.ensures ∙ c.if-is_empty.true

pub returns-else-is_empty-clause-front : goal.returns-else-is_empty-clause-front
returns-else-is_empty-clause-front c =
    left_decides _ _ _ _ c.loop-piece.invariant.0
    ∙ nothing_left _ _ c.in_default.ensures.first ∙ sym c.is_empty.ensures ∙ c.if-is_empty.false
