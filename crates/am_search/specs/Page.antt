-- Pages: the answers from a start on, up to a limit, and where the next page begins.
use Rattle.std.specs.Prelude.{◌≡◌, ℕ, ◌<◌, ◌-◌, List, [], ◌∷◌, ◌++◌, length, take, get_or, Bool}
use Rattle.std.specs.Prelude.{nat_lt, if◌then◌else◌, Option, Some, None, IfSome, MatchOption}
use Rattle.am_search.specs.declared.start.Start.{Start}
use Rattle.am_search.specs.declared.start.Start.TheVariants.{At, After}
use Rattle.am_search.specs.declared.trailer.Trailer.{Trailer}
use Rattle.am_search.specs.declared.trailer.Trailer.TheVariants.{End, Next, Stopped}
use Rattle.am_search.specs.Start.{answers_from}

-- A page: some choices, and the trailer that says what is left.
pub record AnswerPage : Type 0 where
  pub choices : List (List ℕ)
  pub trailer : Trailer

-- The page of some answers under a limit of at least 1, if there is one. If there are more answers
-- than the limit, the page has the first `limit` answers, and its trailer is `Next` with the last
-- of them. Otherwise it has all answers, and its trailer is the given one.
-- Source: own choice.
-- Example: for the answers 1 0 and 2 0 and the trailer `Stopped` at 2 1, the page under the limit 1
-- is 1 0, and `Next` with 1 0; under the limit 2 it is both, and `Stopped` at 2 1.
abbrev pub page_ending : Trailer → List (List ℕ) → Option ℕ → AnswerPage
page_ending ending answers None = record { choices = answers; trailer = ending }
page_ending ending answers (Some limit) =
    if nat_lt limit (length answers) then
    record { choices = take limit answers; trailer = Next (get_or answers (limit - 1) []) }
    else record { choices = answers; trailer = ending }

-- `page_of` is the page of all answers under a limit, if there is one: it ends with `Next` or with
-- `End`. `page_from` is the page from a start: its answers are those from there on.
-- Source: own choice.
-- Example: if only 0 0, 1 0 and 2 0 are true, the page after 0 0 with the limit 1 is 1 0, and
-- `Next` with 1 0; with the limit 2 it is 1 0 and 2 0, and `End`.
abbrev pub page_of : List (List ℕ) → Option ℕ → AnswerPage
page_of answers limit = page_ending End answers limit

abbrev pub page_from : List ℕ → (List ℕ → Bool) → Start → Option ℕ → AnswerPage
page_from sizes truth start limit = page_of (answers_from sizes truth start) limit

-- `start_after` is the start of the page that follows a trailer, if there is one. `rest_after`
-- lists the answers that the trailer leaves: those from that start on, or none without a start.
abbrev pub start_after : Trailer → Option Start
start_after End = None
start_after (Next c) = Some (After c)
start_after (Stopped prefix) = Some (At prefix)

abbrev pub answers_from_any : List ℕ → (List ℕ → Bool) → Option Start → List (List ℕ)
answers_from_any sizes truth None = []
answers_from_any sizes truth (Some start) = answers_from sizes truth start

abbrev pub rest_after : List ℕ → (List ℕ → Bool) → Trailer → List (List ℕ)
rest_after sizes truth trailer = answers_from_any sizes truth (start_after trailer)

-- A page from a start, under any limit of at least 1 or without a limit.
pub record IsPage (sizes : List ℕ) (truth : List ℕ → Bool) (start : Start) (page : AnswerPage)
    : Type 0 where
  pub limit : Option ℕ
  pub at_least_one : IfSome limit (λ n. 0 < n)
  pub from_start : page ≡ page_from sizes truth start limit

-- Consecutive pages, at least one, each of which is a page from its start in the sense given. The
-- first begins at the start, each later one where the trailer before it says, and the last ends
-- with `End`. In `IsChain` they are pages of the answers, and each has its own limit.
abbrev pub IsChainOf : (Start → AnswerPage → Type 0) → Start → List AnswerPage → Type 0
IsChainOf IsPageFrom start [] = ⊥
IsChainOf IsPageFrom start (page ∷ pages) =
    IsPageFrom start page
    × MatchOption (start_after page.trailer) (pages ≡ []) (λ next. IsChainOf IsPageFrom next pages)

abbrev pub IsChain : List ℕ → (List ℕ → Bool) → Start → List AnswerPage → Type 0
IsChain sizes truth = IsChainOf (IsPage sizes truth)

-- The choices of pages, joined.
abbrev pub all_choices_of : List AnswerPage → List (List ℕ)
all_choices_of [] = []
all_choices_of (page ∷ pages) = page.choices ++ all_choices_of pages
