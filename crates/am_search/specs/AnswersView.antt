-- What clauses read of `Answers`: the judge, the start and the budget, the prefixes that were
-- judged, the choices that were given, the choices that are left, and how far the search has come.
use Rattle.std.specs.Prelude.{ℕ, List, length, drop, Option, Some, None}
use Rattle.am_search.specs.declared.judge.Judge.{Ghosts}
use Rattle.am_search.specs.declared.answers.Answers.{Answers}
use Rattle.am_search.specs.declared.answers.State.{State}
use Rattle.am_search.specs.declared.answers.State.TheVariants as states
use Rattle.am_search.specs.declared.start.Start.{Start}
use Rattle.am_search.specs.Visits.{given_under}
use Rattle.am_search.specs.Page.{AnswerPage, page_ending}
use Rattle.am_search.specs.BudgetPage.{stop_of, trailer_at}

-- How far a search has come when `next` has returned `None`: `Stopped` if the search stops at a
-- prefix, and `Ended` if it does not stop.
abbrev pub state_at : Option (List ℕ) → State
state_at None = states.Ended
state_at (Some prefix) = states.Stopped prefix

module _ {J : Type 0} {j : Ghosts J} where
  -- The judge.
  abbrev pub answers_judge : Answers J j → J
  answers_judge a = a.judge.now

  -- Where the answers begin.
  abbrev pub answers_start : Answers J j → Start
  answers_start a = a.start

  -- How many prefixes may be judged in all, if that is limited.
  abbrev pub answers_budget : Answers J j → Option ℕ
  answers_budget a = a.budget

  -- The prefixes that were judged, in order.
  abbrev pub answers_judged : Answers J j → List (List ℕ)
  answers_judged a = a.judged.items

  -- The answers that were given, in order.
  abbrev pub answers_given : Answers J j → List (List ℕ)
  answers_given a = a.given.items

  -- The answers that are left, in declared order: what the prefixes visited under the budget give,
  -- without the answers that were given.
  abbrev pub answers_left : Answers J j → List (List ℕ)
  answers_left a =
      drop (length a.given.items)
      (given_under (j.sizes a.judge.now) (j.verdict a.judge.now) a.start a.budget)

  -- Whether `next` has returned `None` yet, and if so, whether the search ended or stopped.
  abbrev pub answers_state : Answers J j → State
  answers_state a = a.state

  -- The prefix at which the search stops, if it does.
  abbrev pub answers_stop : Answers J j → Option (List ℕ)
  answers_stop a = stop_of (j.sizes a.judge.now) (j.verdict a.judge.now) a.start a.budget

  -- The page of the answers that are left, under a limit if there is one.
  abbrev pub answers_page : Answers J j → Option ℕ → AnswerPage
  answers_page a limit = page_ending (trailer_at (answers_stop a)) (answers_left a) limit
