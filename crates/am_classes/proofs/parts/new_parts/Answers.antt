use Rattle.std.proofs.Common.{map, string_bytes, inr, ap, ◌∙◌}
use Rattle.am_classes.proofs.parts.new_parts.Goals as goal

pub returns-in_default-2-clause-none : goal.returns-in_default-2-clause-none
returns-in_default-2-clause-none c =
    let texts = map string_bytes c.args.texts.items in
    let none = rw c.in_default-2.is at c.in_ok-candidates.ensures.none in
    let asks = rw c.in-Some.is at c.in_ok-questions.ensures.asks in
    inr (
      c.in-Some.questions,
      asks ∙ ap (λ keys. (c.args.alphabet, (texts, map (λ p. p.now) keys))) c.as_slice-patterns.ensures.keys,
      none.0,
      none.1,
    )
