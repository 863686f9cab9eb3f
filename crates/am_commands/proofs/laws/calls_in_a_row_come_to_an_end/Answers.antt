use Rattle.std.proofs.Common.{◌≤◌, ℕ, List, [], ◌∷◌, length, ap, subst, arith}
use Rattle.am_universe.specs.Universe.{sizes}
use Rattle.am_universe.specs.Choice.{choices}
use Rattle.am_labels.specs.Space.{Space}
use Rattle.am_list_files.specs.UniverseFile.{FileSaysUniverse}
use Rattle.am_files.proofs.AcceptedInputs.{one_space}
use Rattle.am_search.specs.BudgetPage.{BeginsLater}
use Rattle.am_search.specs.Token.{token_text}
use Rattle.am_search.proofs.TokenTexts.{sizes_of_universe}
use Rattle.am_search.proofs.SearchChains.{from_at_most, some_choice}
use Rattle.am_questions.specs.Inputs.{Inputs, inputs_fingerprint, after_token}
use Rattle.am_questions.proofs.OneInputs.{one_meaning_of_inputs}
use Rattle.am_commands.specs.AskOutcome.{Asked, AreAskedInARow, AreAskedSoFar}
use Rattle.am_commands.proofs.AskedAgain.{asked_goes_on, goes_later, row_within}
use Rattle.am_commands.proofs.laws.calls_in_a_row_come_to_an_end.Goals as goal

-- the number of all choices
abbrev all_of : Space → ℕ
all_of s = length (choices (sizes s.labels))

-- there are at most as many calls in a row as choices, and if there are as many, they have ended
row_ends : (inputs : Inputs) (s : Space) (row : List Asked)
    → FileSaysUniverse inputs.universe s → AreAskedSoFar inputs row
    → (length row ≤ all_of s) × (all_of s ≤ length row → AreAskedInARow inputs row)
row_ends inputs s [] says h =
    let some = some_choice (sizes s.labels) (sizes_of_universe s.labels says.3.is_universe) in
    (omega arith, λ full. absurd (omega (arith, some, full)))
row_ends inputs s (asked ∷ more) says h =
    let here = h.0.2 in
    let ns : List ℕ = sizes here.space.labels in
    subst (λ n. (length (asked ∷ more) ≤ n) × (n ≤ length (asked ∷ more) → AreAskedInARow inputs (asked ∷ more)))
    (ap all_of (one_space inputs.universe here.space s here.accepts.says_universe says))
    (row_within inputs (asked ∷ more) here.space here.world here.question here.start h here.accepts
    (all_of here.space)
    (some_choice ns (sizes_of_universe here.space.labels here.accepts.says_universe.3.is_universe))
    (from_at_most ns here.start))

pub returns : goal.returns
returns _ = record {
  later = λ inputs first second next asked ends again.
      let same = one_meaning_of_inputs
      (after_token inputs (token_text (inputs_fingerprint inputs) next)) asked.2.space again.2.space
      asked.2.world again.2.world asked.2.question again.2.question next again.2.start
      (asked_goes_on inputs first asked next ends) again.2.accepts in
      subst (BeginsLater (sizes asked.2.space.labels) asked.2.start) same.3
      (goes_later inputs first next asked ends);
  at_most = λ inputs s row says h. (row_ends inputs s row says h).0;
  ended = λ inputs s row says h. (row_ends inputs s row says h).1;
}
