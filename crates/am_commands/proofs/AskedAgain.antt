-- Calls of `ask` in a row: each goes on with what the one before it left, and begins later, so they
-- come to an end.
use Rattle.std.proofs.Common.{◌≡◌, inr, ℕ, List, [], ◌∷◌, ◌++◌, Option, None, Some, arith}
use Rattle.std.proofs.Common.{MatchOption, ap, sym, ◌∙◌, refl, suc, ◌-◌, ◌<◌, ◌≤◌, length, subst}
use Rattle.std.specs.Prelude.{option_map}
use Rattle.std.specs.List.{flat_map}
use Rattle.std.proofs.lemmas.Grind.{flat_map-append, common_steps}
use mathlib.Core.List.{append_cancel_right}
use Rattle.am_universe.specs.Universe.{sizes}
use Rattle.am_labels.specs.Space.{Space}
use Rattle.am_eval.specs.World.{World}
use Rattle.am_eval.specs.Question.{Question, is_answer}
use Rattle.am_search.specs.declared.start.Start.{Start}
use Rattle.am_search.specs.Start.{answers_from, choices_from}
use Rattle.am_search.specs.Page.{AnswerPage, rest_after, start_after, answers_from_any}
use Rattle.am_search.specs.BudgetPage.{IsSearchPage, BeginsLater}
use Rattle.am_search.specs.Token.{token_text}
use Rattle.am_search.specs.PageText.{lines_text}
use Rattle.am_search.proofs.TokenTexts.{sizes_of_universe}
use Rattle.am_search.proofs.SearchChains.{goes_on, later_fewer, later_some}
use Rattle.am_plans.specs.Verdicts.{verdict_of}
use Rattle.am_questions.specs.Inputs.{Inputs, inputs_fingerprint, after_token, AcceptsInputs}
use Rattle.am_questions.proofs.OneInputs.{one_meaning_of_inputs}
use Rattle.am_commands.specs.AskOutcome.{answer_page, searched_page, Asked, IsAskedOf}
use Rattle.am_commands.specs.AskOutcome.{AreAskedInARow, AreAskedSoFar}
use Rattle.am_plans.proofs.Soundness.{question_judges}
use Rattle.am_commands.proofs.AskedPages.{enough_for, page_unlimited}

-- the lines of the answers from a start on
abbrev pub lines_left : Space → World → Question → Start → List ℕ
lines_left s w q start = lines_text s.labels (answers_from (sizes s.labels) (is_answer s w q) start)

-- if the same inputs are accepted in two ways, they leave the same lines
pub same_lines : (inputs : Inputs) (s t : Space) (w x : World) (q r : Question)
    (start other : Start) → AcceptsInputs inputs s w q start → AcceptsInputs inputs t x r other
    → lines_left s w q start ≡ lines_left t x r other
same_lines inputs s t w x q r start other said again =
    let same = one_meaning_of_inputs inputs s t w x q r start other said again in
    λ k. lines_left (same.0 k) (same.1 k) (same.2 k) (same.3 k)

-- the inputs with the token of a trailer are accepted, and ask for the start that the trailer
-- leaves
pub goes_on_at : (inputs : Inputs) (s : Space) (w : World) (q : Question) (start next : Start)
    (page : AnswerPage) → AcceptsInputs inputs s w q start
    → IsSearchPage (sizes s.labels) (verdict_of s w q) start page → start_after page.trailer ≡ Some next
    → AcceptsInputs (after_token inputs (token_text (inputs_fingerprint inputs) next)) s w q next
goes_on_at inputs s w q start next page accepts is ends = record {
  says_universe = accepts.says_universe;
  accepts_world = accepts.accepts_world;
  reads = accepts.reads;
  starts = (
    (goes_on (sizes s.labels) (is_answer s w q) (verdict_of s w q) start page
        (question_judges s w q accepts.says_universe.3.is_universe) is next ends).is_start,
    inr refl,
  );
}

-- facts about a call that succeeded
module _ (inputs : Inputs) (asked : Asked) (h : IsAskedOf inputs asked) where
  abbrev page : AnswerPage
  page = searched_page h.2.space h.2.world h.2.question h.2.start asked.limit asked.steps

  -- the lines of the answers from a start on
  abbrev left : Start → List ℕ
  left = lines_left h.2.space h.2.world h.2.question

  -- its page is that of a search, under a budget that is enough
  pub asked_page : IsSearchPage (sizes h.2.space.labels) (verdict_of h.2.space h.2.world h.2.question)
      h.2.start page
  asked_page = grind (arith, common_steps, enough_for, sizes_of_universe)

  -- so the inputs with the token of its trailer are accepted
  pub asked_goes_on : (next : Start) → start_after asked.trailer ≡ Some next
      → AcceptsInputs (after_token inputs (token_text (inputs_fingerprint inputs) next)) h.2.space
      h.2.world h.2.question next
  asked_goes_on next ends =
      goes_on_at inputs h.2.space h.2.world h.2.question h.2.start next page
      h.2.accepts asked_page (ap start_after (sym h.2.trailer_is) ∙ ends)

  -- it wrote the lines of its page
  page_lines : asked.lines ≡ lines_text h.2.space.labels page.choices
  page_lines = grind (arith, common_steps, append_cancel_right)

  -- its lines, and then those that its trailer leaves, are all lines from its start on
  lines_and_rest : asked.lines
      ++ lines_text h.2.space.labels
      (rest_after (sizes h.2.space.labels) (is_answer h.2.space h.2.world h.2.question) asked.trailer)
      ≡ left h.2.start
  lines_and_rest = grind (arith, common_steps, page_lines, flat_map-append)

  -- without a limit and without a budget it writes all answers from its start on
  pub whole_page : asked.limit ≡ None → asked.steps ≡ None
      → page ≡ answer_page h.2.space h.2.world h.2.question h.2.start None
  whole_page unlimited unbudgeted = grind (arith, common_steps, page_unlimited)

  pub whole_lines : asked.limit ≡ None → asked.steps ≡ None → asked.lines ≡ left h.2.start
  whole_lines unlimited unbudgeted =
      page_lines ∙ ap (λ p. lines_text h.2.space.labels p.choices) (whole_page unlimited unbudgeted)

pub lines_of_row : (inputs : Inputs) (row : List Asked) (s : Space) (w : World) (q : Question)
    (start : Start) → AreAskedInARow inputs row → AcceptsInputs inputs s w q start
    → flat_map (λ (asked : Asked). asked.lines) row ≡ lines_left s w q start
lines_of_row inputs [] s w q start h accepts = absurd h
lines_of_row inputs (asked ∷ more) s w q start h accepts =
    ap (λ text. asked.lines ++ text)
    (by (start_after asked.trailer) refl h.1 (λ next ends k. lines_of_row
    (after_token inputs (token_text (inputs_fingerprint inputs) next)) more h.0.2.space h.0.2.world h.0.2.question next k
    (asked_goes_on inputs asked h.0 next ends)))
    ∙ lines_and_rest inputs asked h.0
    ∙ same_lines inputs h.0.2.space s h.0.2.world w h.0.2.question q h.0.2.start start
    h.0.2.accepts accepts
  where
    by : (o : Option Start) → start_after asked.trailer ≡ o
        → MatchOption (option_map (token_text (inputs_fingerprint inputs)) o) (more ≡ [])
        (λ token. AreAskedInARow (after_token inputs token) more)
        → ((next : Start) → start_after asked.trailer ≡ Some next
        → AreAskedInARow (after_token inputs (token_text (inputs_fingerprint inputs) next)) more
        → flat_map (λ (asked : Asked). asked.lines) more ≡ left inputs asked h.0 next)
        → flat_map (λ (asked : Asked). asked.lines) more
        ≡ lines_text h.0.2.space.labels
        (answers_from_any (sizes h.0.2.space.labels)
        (is_answer h.0.2.space h.0.2.world h.0.2.question) o)
    by None ends none goes = ap (flat_map (λ (asked : Asked). asked.lines)) none
    by (Some next) ends again goes = goes next ends again

-- ---- They come to an end.

-- the start that the trailer of a call leaves is later than the start of the call
pub goes_later : (inputs : Inputs) (asked : Asked) (next : Start) (h : IsAskedOf inputs asked)
    → start_after asked.trailer ≡ Some next → BeginsLater (sizes h.2.space.labels) h.2.start next
goes_later inputs asked next h ends =
    let s : Space = h.2.space in
    let page = searched_page s h.2.world h.2.question h.2.start asked.limit asked.steps in
    (goes_on (sizes s.labels) (is_answer s h.2.world h.2.question)
    (verdict_of s h.2.world h.2.question) h.2.start page
    (question_judges s h.2.world h.2.question h.2.accepts.says_universe.3.is_universe)
    (asked_page inputs asked h) next (ap start_after (sym h.2.trailer_is) ∙ ends)).later

-- the number of choices from a start on
abbrev pub left_from : Space → Start → ℕ
left_from s start = length (choices_from (sizes s.labels) start)

-- there are at most as many calls in a row as choices from the first start on, or one call; and if
-- there are as many, they have ended
pub row_within : (inputs : Inputs) (row : List Asked) (s : Space) (w : World) (q : Question)
    (start : Start) → AreAskedSoFar inputs row → AcceptsInputs inputs s w q start
    → (n : ℕ) → 0 < n → left_from s start ≤ n
    → (length row ≤ n) × (n ≤ length row → AreAskedInARow inputs row)
row_within inputs [] s w q start h accepts n some within =
    (omega arith, λ full. absurd (omega (arith, some, full)))
row_within inputs (asked ∷ more) s w q start h accepts n some within =
    by (start_after asked.trailer) refl h.1 (λ next ends k. row_within
    (after_token inputs (token_text (inputs_fingerprint inputs) next)) more h.0.2.space
    h.0.2.world h.0.2.question next k (asked_goes_on inputs asked h.0 next ends))
  where
    Follows : (Inputs → List Asked → Type 0) → Option Start → Type 0
    Follows IsRow o =
        MatchOption (option_map (token_text (inputs_fingerprint inputs)) o) (more ≡ [])
        (λ token. IsRow (after_token inputs token) more)

    same_left : left_from h.0.2.space h.0.2.start ≡ left_from s start
    same_left =
        let same = one_meaning_of_inputs inputs h.0.2.space s h.0.2.world w h.0.2.question q
        h.0.2.start start h.0.2.accepts accepts in
        λ k. left_from (same.0 k) (same.3 k)

    by : (o : Option Start) → start_after asked.trailer ≡ o → Follows AreAskedSoFar o
        → ((next : Start) → start_after asked.trailer ≡ Some next
        → AreAskedSoFar (after_token inputs (token_text (inputs_fingerprint inputs) next)) more
        → (m : ℕ) → 0 < m → left_from h.0.2.space next ≤ m
        → (length more ≤ m) × (m ≤ length more
        → AreAskedInARow (after_token inputs (token_text (inputs_fingerprint inputs) next)) more))
        → (length (asked ∷ more) ≤ n) × (n ≤ length (asked ∷ more) → AreAskedInARow inputs (asked ∷ more))
    by None ends none goes =
        (omega (arith, ap length none), λ full. (h.0, subst (Follows AreAskedInARow) (sym ends) none))
    by (Some next) ends again goes =
        let ns : List ℕ = sizes h.0.2.space.labels in
        let later = goes_later inputs asked next h.0 ends in
        let fewer = later_fewer ns h.0.2.start next later in
        let some_left = later_some ns h.0.2.start next later in
        let less : suc (n - 1) ≡ n = omega arith in
        let rest = goes next ends again (n - 1) (omega (arith, fewer, same_left, some_left, within))
        (omega (arith, fewer, same_left, within)) in (
          omega (arith, rest.0, less),
          λ full. (h.0, subst (Follows AreAskedInARow) (sym ends) (rest.1 (omega (arith, full, less)))),
        )
