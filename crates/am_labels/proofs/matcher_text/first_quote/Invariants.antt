use Rattle.std.proofs.Common.{◌≡◌, ℕ, ◌<◌, false}
use Rattle.am_labels.specs.MatcherText.{is_quote}
use Rattle.am_labels.specs.QuoteState.{IsStateAt}
use Rattle.am_labels.proofs.matcher_text.first_quote.Given as goal

abbrev pub invariant-loop-i : goal.invariant-loop-i
invariant-loop-i l = record {
  state : IsStateAt l.text l.i l.state;
  none : (k : ℕ) → k < l.i → is_quote l.text k ≡ false;
}
