-- Pages of the answers to a question.
use Rattle.std.proofs.Common.{◌≡◌, ◌≢◌, ℕ, ◌<◌, List, ◌++◌, Option, None, Some, IfSome, ap, sym, ◌∙◌, refl, arith}
use Rattle.std.specs.Prelude.{IsTrue}
use Rattle.std.specs.List.{filter}
use Rattle.am_universe.specs.declared.limits.TheConstants.{MAX_LABELS}
use Rattle.am_universe.specs.Universe.{IsUniverse, sizes}
use Rattle.am_universe.specs.Choice.{admits}
use Rattle.am_labels.specs.Space.{Space}
use Rattle.am_eval.specs.World.{World}
use Rattle.am_eval.specs.Question.{Question, is_answer}
use Rattle.am_search.specs.declared.start.Start.{Start}
use Rattle.am_search.specs.declared.trailer.Trailer.{Trailer}
use Rattle.am_search.specs.declared.trailer.Trailer.TheVariants.{End, Next, Stopped}
use Rattle.am_search.specs.declared.verdict.Verdict.{Verdict}
use Rattle.am_search.specs.Judge.{AreSizes}
use Rattle.am_search.specs.Start.{comes_before, answers_from}
use Rattle.am_search.specs.Page.{rest_after}
use Rattle.am_search.specs.BudgetPage.{page_under, IsEnough}
use Rattle.am_search.specs.PageText.{page_text}
use Rattle.am_search.proofs.BudgetPages.{same_unstopped, same_next, same_end, stopped_before, rest_under}
use Rattle.am_search.proofs.SameVerdicts.{same_page}
use Rattle.am_plans.specs.Verdicts.{verdict_of}
use Rattle.am_plans.proofs.Soundness.{question_judges}
use Rattle.am_questions.specs.declared.inputs.AcceptedInputs.{AcceptedInputs}
use Rattle.am_questions.specs.Inputs.{Inputs, inputs_fingerprint, AcceptsInputs}
use Rattle.am_eval.specs.QuestionView.{question_view}
use Rattle.am_commands.specs.AskOutcome.{AnswersInputs, answer_page, searched_page}
use Rattle.am_commands.specs.AskOutcome.{page_of_inputs, page_promise}

-- ---- The search for the answers to a question.

-- a judge that has these verdicts at the prefixes of choices finds the same page
pub page_of_plan : (s : Space) (w : World) (q : Question) (ns : List ℕ) (verdict : List ℕ → Verdict) (start : Start) (limit steps : Option ℕ)
    → ns ≡ sizes s.labels → ((prefix : List ℕ) → IsTrue (admits (sizes s.labels) prefix) → verdict prefix ≡ verdict_of s w q prefix)
    → page_under ns verdict start limit steps ≡ searched_page s w q start limit steps
page_of_plan s w q ns verdict start limit steps same agrees =
    ap (λ n. page_under n verdict start limit steps) same ∙ same_page (sizes s.labels) verdict (verdict_of s w q) start agrees limit steps

-- more steps than a universe may have labels are enough
pub enough_for : (ns : List ℕ) → AreSizes ns → (steps : Option ℕ) → IfSome steps (λ n. MAX_LABELS < n) → IsEnough ns steps
enough_for ns are None h = tt
enough_for ns are (Some n) h = omega (arith, are.labels, h)

-- facts about a page with this trailer
module _ (s : Space) (w : World) (q : Question) (start : Start) (limit steps : Option ℕ) (trailer : Trailer) (is : IsUniverse s.labels) (some : IfSome limit (λ n. 0 < n))
    (ends : trailer ≡ (searched_page s w q start limit steps).trailer) where
  pub rest_of_page : IfSome steps (λ n. MAX_LABELS < n)
      → answers_from (sizes s.labels) (is_answer s w q) start ≡ (searched_page s w q start limit steps).choices ++ rest_after (sizes s.labels) (is_answer s w q) trailer
  rest_of_page enough =
      let law = question_judges s w q is in
      rest_under (sizes s.labels) (is_answer s w q) (verdict_of s w q) start limit steps law some (enough_for (sizes s.labels) law.limits steps enough)
      ∙ ap (λ t. (searched_page s w q start limit steps).choices ++ rest_after (sizes s.labels) (is_answer s w q) t) (sym ends)

  pub unstopped_page : ((prefix : List ℕ) → trailer ≢ Stopped prefix) → searched_page s w q start limit steps ≡ answer_page s w q start limit
  unstopped_page runs = by trailer refl
    where
      by : (t : Trailer) → trailer ≡ t → searched_page s w q start limit steps ≡ answer_page s w q start limit
      by End e = same_end (sizes s.labels) (is_answer s w q) (verdict_of s w q) start limit steps (question_judges s w q is) some (sym ends ∙ e)
      by (Next c) e = same_next (sizes s.labels) (is_answer s w q) (verdict_of s w q) start limit steps (question_judges s w q is) some c (sym ends ∙ e)
      by (Stopped prefix) e = absurd (runs prefix e)

  pub stopped_page : (prefix : List ℕ) → trailer ≡ Stopped prefix
      → (searched_page s w q start limit steps).choices ≡ filter (λ c. comes_before c prefix) (answers_from (sizes s.labels) (is_answer s w q) start)
  stopped_page prefix e = stopped_before (sizes s.labels) (is_answer s w q) (verdict_of s w q) start limit steps (question_judges s w q is) some prefix (sym ends ∙ e)

-- without a budget the page of the search is that of the answers
pub page_unlimited : (s : Space) (w : World) (q : Question) (start : Start) (limit steps : Option ℕ) → IsUniverse s.labels → steps ≡ None
    → searched_page s w q start limit steps ≡ answer_page s w q start limit
page_unlimited s w q start limit steps is none =
    ap (searched_page s w q start limit) none
    ∙ same_unstopped (sizes s.labels) (is_answer s w q) (verdict_of s w q) start (question_judges s w q is) limit None refl

-- the page that is owed after the inputs are read is that of the inputs
pub page_of_read : (inputs : Inputs) (read : AcceptedInputs) (limit steps : Option ℕ) (trailer : Trailer) (text : List ℕ)
    → AcceptsInputs inputs read.space read.world (question_view read.question) read.start → read.fingerprint ≡ inputs_fingerprint inputs
    → IfSome limit (λ n. 0 < n) → IfSome steps (λ n. MAX_LABELS < n) → (page_promise read limit steps).May trailer text
    → AnswersInputs inputs limit steps trailer text
page_of_read inputs read limit steps trailer text accepts made_from some enough is =
    let s : Space = read.space in
    let q : Question = question_view read.question in
    let universe = accepts.says_universe.3.is_universe in
    let same : text ≡ page_text s.labels (inputs_fingerprint inputs) (page_of_inputs read limit steps) =
    is.1 ∙ ap (λ h. page_text s.labels h (page_of_inputs read limit steps)) made_from in
    record {
      space = s;
      world = read.world;
      question = q;
      start = read.start;
      accepts = accepts;
      without_budget = λ none.
          let plain = page_unlimited s read.world q read.start limit steps universe none in
          (same ∙ ap (page_text s.labels (inputs_fingerprint inputs)) plain, is.0 ∙ ap (λ page. page.trailer) plain);
      text_is = same;
      trailer_is = is.0;
      rest = rest_of_page s read.world q read.start limit steps trailer universe some is.0 enough;
      unstopped = unstopped_page s read.world q read.start limit steps trailer universe some is.0;
      stopped = stopped_page s read.world q read.start limit steps trailer universe some is.0;
    }
