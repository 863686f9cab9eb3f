use Rattle.std.proofs.Common.{◌≡◌, true, sym, refl, arith}
use Rattle.am_labels.specs.MatcherText.{is_quote}
use Rattle.am_labels.proofs.MatcherTextIndices.{first_quote_is}
use Rattle.am_labels.proofs.matcher_text.first_quote.Goals as goal

pub returns-then-is_quote-clause-first : goal.returns-then-is_quote-clause-first
returns-then-is_quote-clause-first c =
    let is = c.is_quote.ensures c.args.text.now c.loop-i.i refl c.loop-i.invariant.state in
    let here : is_quote c.args.text.now c.loop-i.i ≡ true = cc in
    sym (first_quote_is c.args.text.now c.loop-i.i (omega arith) c.loop-i.invariant.none (λ _. here))

pub loop-i-init : goal.loop-i-init
loop-i-init c = record { state = c.start-state.ensures c.args.text.now; none = λ k h. absurd (omega arith) }
