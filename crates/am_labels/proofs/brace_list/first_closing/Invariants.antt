use Rattle.std.proofs.Common.{◌≡◌, ℕ, ◌<◌, false}
use Rattle.am_labels.specs.QuoteState.{IsStateAt}
use Rattle.am_labels.specs.BraceList.{is_closing_brace}
use Rattle.am_labels.proofs.brace_list.first_closing.Given as goal

abbrev pub invariant-loop-i : goal.invariant-loop-i
invariant-loop-i l = record {
  state : IsStateAt l.text l.i l.state;
  none_before : (k : ℕ) → k < l.i → is_closing_brace l.text k ≡ false;
}
