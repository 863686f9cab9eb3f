-- The results of `ask`. (This project's own.)
use Rattle.std.specs.Prelude.{◌≡◌, ◌≢◌, ◌<◌, ℕ, List, [], ◌∷◌, ◌++◌, Option, None, IfSome}
use Rattle.std.specs.Prelude.{MatchOption, option_map, ⊤}
use Rattle.std.specs.List.{filter}
use Rattle.am_universe.specs.declared.limits.TheConstants.{MAX_LABELS}
use Rattle.am_universe.specs.Universe.{sizes}
use Rattle.am_labels.specs.Space.{Space}
use Rattle.am_eval.specs.World.{World}
use Rattle.am_files.specs.Promise.{Promise}
use Rattle.am_eval.specs.Question.{Question, is_answer}
use Rattle.am_eval.specs.QuestionView.{question_view}
use Rattle.am_search.specs.declared.start.Start.{Start}
use Rattle.am_search.specs.declared.trailer.Trailer.{Trailer}
use Rattle.am_search.specs.declared.trailer.Trailer.TheVariants.{Stopped}
use Rattle.am_search.specs.Start.{answers_from, comes_before}
use Rattle.am_search.specs.Page.{AnswerPage, page_from, rest_after, start_after}
use Rattle.am_search.specs.BudgetPage.{page_under}
use Rattle.am_search.specs.PageText.{page_text}
use Rattle.am_search.specs.Token.{token_text}
use Rattle.am_search.specs.TrailerText.{trailer_text}
use Rattle.am_plans.specs.Verdicts.{verdict_of}
use Rattle.am_questions.specs.declared.inputs.AcceptedInputs.{AcceptedInputs}
use Rattle.am_questions.specs.Inputs.{Inputs, inputs_fingerprint, after_token, AcceptsInputs}
use Rattle.am_questions.specs.Inputs.{ask_stages}

-- The page of the answers to a question about a world, over a space: from a start on, and under a
-- limit if there is one.
-- Source: own choice.
-- Example: of three answers, the page from the first choice on under the limit 2 has the first two,
-- and ends with `Next` and the second.
abbrev pub answer_page : Space → World → Question → Start → Option ℕ → AnswerPage
answer_page s w q start limit = page_from (sizes s.labels) (is_answer s w q) start limit

-- The page of a search for these answers, which is also under a budget of steps if there is one. A
-- step judges a prefix of a choice: the search finds the verdict of the question there, in the
-- logic of three values.
-- Source: own choice.
-- Example: over the labels `a` and `b`, each with the values `0` and `1`, the question `{b="0"}` is
-- `Open` at the empty prefix and at 0. Under a budget of 2 the page is empty, and ends with
-- `Stopped` at 0 0.
abbrev pub searched_page : Space → World → Question → Start → Option ℕ → Option ℕ → AnswerPage
searched_page s w q start limit steps =
    page_under (sizes s.labels) (verdict_of s w q) start limit steps

-- That page for inputs that were read: for their question, world, space and start.
abbrev pub page_of_inputs : AcceptedInputs → Option ℕ → Option ℕ → AnswerPage
page_of_inputs read limit steps =
    searched_page read.space read.world (question_view read.question) read.start limit steps

-- The inputs are accepted, and the text is the page of their answers, from the start that they ask
-- for, under this limit and this budget of steps if there are any. The page ends with this trailer.
-- Without a budget it is the page of the answers, which does not depend on verdicts. The trailer
-- leaves exactly the rest: the answers from the start on are those of the page, and then those from
-- the trailer's start on. If the search did not stop, the page is the one without the budget. If it
-- stopped at a prefix, the lines are exactly the answers from the start on that come before the
-- prefix, and so before its first completion.
-- Source: own choice.
-- Example: over a universe whose only label `team` may be `db` or `web`, the page of `any` under
-- the limit 1 is the line `{team="db"}` and the trailer `# next t2:H:0`, where `H` stands for the
-- 32 digits of the fingerprint of the inputs.
pub record AnswersInputs (inputs : Inputs) (limit steps : Option ℕ) (trailer : Trailer)
    (text : List ℕ) : Type 0 where
  pub space : Space
  pub world : World
  pub question : Question
  pub start : Start
  pub accepts : AcceptsInputs inputs space world question start
  pub without_budget : steps ≡ None
      → (text ≡ page_text space.labels (inputs_fingerprint inputs)
      (answer_page space world question start limit))
      × (trailer ≡ (answer_page space world question start limit).trailer)
  pub text_is : text ≡ page_text space.labels (inputs_fingerprint inputs)
      (searched_page space world question start limit steps)
  pub trailer_is : trailer ≡ (searched_page space world question start limit steps).trailer
  pub rest : answers_from (sizes space.labels) (is_answer space world question) start
      ≡ (searched_page space world question start limit steps).choices
      ++ rest_after (sizes space.labels) (is_answer space world question) trailer
  pub unstopped : ((prefix : List ℕ) → trailer ≢ Stopped prefix)
      → searched_page space world question start limit steps
      ≡ answer_page space world question start limit
  pub stopped : (prefix : List ℕ) → trailer ≡ Stopped prefix
      → (searched_page space world question start limit steps).choices
      ≡ filter (λ c. comes_before c prefix)
      (answers_from (sizes space.labels) (is_answer space world question) start)

-- What `ask` owes: its stages, and the page of the answers with its trailer.
-- Source: own choice.
-- Example: of three answers under the limit 2 it owes the first two and `# next` with the second.
abbrev pub ask_promise : Inputs → Option ℕ → Option ℕ → Promise Trailer
ask_promise inputs limit steps = record {
  stages = ask_stages inputs;
  May = AnswersInputs inputs limit steps;
}

-- What is owed after the inputs are read: the page of their answers. The only faults that are left
-- are `Memory` and `Write`.
abbrev pub page_promise : AcceptedInputs → Option ℕ → Option ℕ → Promise Trailer
page_promise read limit steps = record {
  stages = [];
  May = λ trailer text. (trailer ≡ (page_of_inputs read limit steps).trailer)
      × (text ≡ page_text read.space.labels read.fingerprint (page_of_inputs read limit steps));
}

-- ---- Calls in a row.

-- A call of `ask` that succeeded: its limit and its budget of steps, if it had any, the lines that
-- it wrote, and the trailer after them.
pub record Asked : Type 0 where
  pub limit : Option ℕ
  pub steps : Option ℕ
  pub lines : List ℕ
  pub trailer : Trailer

-- The call had these inputs, which are accepted, and wrote the page of their answers.
abbrev pub IsAskedOf : Inputs → Asked → Type 0
IsAskedOf inputs asked =
    IfSome asked.limit (λ n. 0 < n)
    × IfSome asked.steps (λ n. MAX_LABELS < n)
    × AnswersInputs inputs asked.limit asked.steps asked.trailer
    (asked.lines ++ trailer_text (inputs_fingerprint inputs) asked.trailer)

-- The token in the text of a trailer, if it has one, as it is written for inputs with this
-- fingerprint.
abbrev pub token_after : List ℕ → Trailer → Option (List ℕ)
token_after fingerprint trailer = option_map (token_text fingerprint) (start_after trailer)

-- Calls in a row, at least one. Each has its own limit and budget. The first has these inputs, and
-- each later one the same inputs with the token of the trailer before it. The last ends with `End`.
-- Source: own choice.
-- Example: a call that ends with `# next` and a token, and then a call with `--after` and that
-- token, which ends with `# end`.
abbrev pub AreAskedInARow : Inputs → List Asked → Type 0
AreAskedInARow inputs [] = ⊥
AreAskedInARow inputs (asked ∷ more) =
    IsAskedOf inputs asked
    × MatchOption (token_after (inputs_fingerprint inputs) asked.trailer) (more ≡ [])
    (λ token. AreAskedInARow (after_token inputs token) more)

-- Calls in a row so far: as above, but there may be none, and the last may also end with a token
-- with which no call was made yet.
-- Source: own choice.
-- Example: one call that ends with `# next` and a token; or no call at all.
abbrev pub AreAskedSoFar : Inputs → List Asked → Type 0
AreAskedSoFar inputs [] = ⊤
AreAskedSoFar inputs (asked ∷ more) =
    IsAskedOf inputs asked
    × MatchOption (token_after (inputs_fingerprint inputs) asked.trailer) (more ≡ [])
    (λ token. AreAskedSoFar (after_token inputs token) more)
