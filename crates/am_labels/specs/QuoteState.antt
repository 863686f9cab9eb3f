-- What the code knows about an index of a matcher text from the bytes before it.
use Rattle.std.specs.Prelude.{◌≡◌, ℕ, List}
use Rattle.am_labels.specs.MatcherText.{is_escaped, is_quoted}
use Rattle.am_labels.specs.declared.quotes.QuoteState.{QuoteState}

-- A state is that of an index: whether the index is escaped, and whether it is quoted.
pub record IsStateAt (text : List ℕ) (i : ℕ) (state : QuoteState) : Type 0 where
  pub escaped : state.escaped ≡ is_escaped text i
  pub quoted : state.quoted ≡ is_quoted text i
