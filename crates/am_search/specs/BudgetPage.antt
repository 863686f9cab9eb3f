-- Pages of a search under a budget. The budget says how many prefixes may be judged; the search
-- stops before the next one.
use Rattle.std.specs.Prelude.{◌≡◌, ℕ, ◌<◌, List, length, slice_get}
use Rattle.std.specs.Prelude.{Option, Some, None, IfSome, IsTrue}
use Rattle.am_search.specs.declared.start.Start.{Start}
use Rattle.am_search.specs.declared.trailer.Trailer.{Trailer}
use Rattle.am_search.specs.declared.trailer.Trailer.TheVariants.{End, Stopped}
use Rattle.am_search.specs.declared.verdict.Verdict.{Verdict}
use Rattle.am_search.specs.Start.{comes_before, first_of_start}
use Rattle.am_search.specs.Visits.{visited, given_under}
use Rattle.am_search.specs.Page.{AnswerPage, page_ending, IsChainOf}

-- The prefix at which a search stops under a budget: the first visited prefix that the budget
-- leaves out. There is none without a budget, or if the budget is enough for all visited prefixes.
-- Source: own choice.
-- Example: if the empty prefix, 0, 0 0, 0 1, 1 and 2 are visited, a search with a budget of 5 stops
-- at 2, and one with a budget of 6 does not stop.
abbrev pub stop_of : List ℕ → (List ℕ → Verdict) → Start → Option ℕ → Option (List ℕ)
stop_of sizes verdict start None = None
stop_of sizes verdict start (Some budget) = slice_get (visited sizes verdict start) budget

-- The trailer of a search: `Stopped` if it stops at a prefix, and `End` if it does not stop.
abbrev pub trailer_at : Option (List ℕ) → Trailer
trailer_at None = End
trailer_at (Some prefix) = Stopped prefix

-- The page of a search from a start, under a limit and a budget if there are any. Its answers come
-- from the prefixes that are judged under the budget. The limit comes first: if there are more of
-- these answers than the limit, the page ends with `Next`; otherwise its trailer says whether the
-- search stopped.
-- Source: own choice.
-- Example: over the sizes 3 and 2 let 0 1 and 1 0 be true, and let the empty prefix, 0, 0 0, 0 1,
-- 1, 1 0, 1 1 and 2 be visited. Under a budget of 5 the page from the first choice on is 0 1, and
-- `Stopped` at 1 0. Under a budget of 6 and the limit 1 it is 0 1, and `Next` with 0 1. Under the
-- limit 2 it is 0 1 and 1 0, and `Stopped` at 1 1.
abbrev pub page_under : List ℕ → (List ℕ → Verdict) → Start → Option ℕ → Option ℕ → AnswerPage
page_under sizes verdict start limit budget =
    page_ending (trailer_at (stop_of sizes verdict start budget))
    (given_under sizes verdict start budget) limit

-- A budget that is enough for a search to come past the first choice of its start, whatever the
-- verdicts are: it allows more prefixes to be judged than there are labels. Without a budget this
-- always holds.
abbrev pub IsEnough : List ℕ → Option ℕ → Type 0
IsEnough sizes budget = IfSome budget (λ n. length sizes < n)

-- A page of a search from a start, under any limit of at least 1 or without a limit, and under any
-- budget that is enough or without a budget.
pub record IsSearchPage (sizes : List ℕ) (verdict : List ℕ → Verdict) (start : Start)
    (page : AnswerPage) : Type 0 where
  pub limit : Option ℕ
  pub at_least_one : IfSome limit (λ n. 0 < n)
  pub budget : Option ℕ
  pub enough : IsEnough sizes budget
  pub from_start : page ≡ page_under sizes verdict start limit budget

-- Consecutive pages of searches, at least one. Each has its own limit and budget.
-- Source: own choice.
-- Example: over one label with three values, let all choices be true and judged one by one. A page
-- under a budget of 3 is 0 and 1, and `Stopped` at 2; the page from there is 2, and `End`.
abbrev pub IsSearchChain : List ℕ → (List ℕ → Verdict) → Start → List AnswerPage → Type 0
IsSearchChain sizes verdict = IsChainOf (IsSearchPage sizes verdict)

-- `next` begins later than `start`: both begin at a choice, and the choice of `start` comes first.
-- Source: own choice.
-- Example: over the sizes 2 and 3, `At` 1 begins later than `After` 0 0, but not later than
-- `After` 0 2, which begins at 1 0 too.
pub record BeginsLater (sizes : List ℕ) (start next : Start) : Type 0 where
  pub first : List ℕ
  pub begins : first_of_start sizes start ≡ Some first
  pub next_first : List ℕ
  pub next_begins : first_of_start sizes next ≡ Some next_first
  pub later : IsTrue (comes_before first next_first)
