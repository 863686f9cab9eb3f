-- Which prefixes a search judges from a start on, and which choices these give. The search goes on
-- below a prefix whose verdict is `Open`. It leaves out what is below a `No`, and gives what is
-- below a `Yes` without judging there.
use Rattle.std.specs.Prelude.{◌≡◌, ℕ, ◌-◌, List, [], ◌∷◌, ◌++◌, length, map, take, nat_lt, Bool}
use Rattle.std.specs.Prelude.{◌&&◌, if◌then◌else◌, Option, Some, None, slice_get}
use Rattle.std.specs.List.{filter, flat_map, list_all, range_with_len}
use Rattle.am_universe.specs.Completions.{completions}
use Rattle.am_search.specs.declared.start.Start.{Start}
use Rattle.am_search.specs.declared.verdict.Verdict.{Verdict}
use Rattle.am_search.specs.Judge.{is_yes, is_open}
use Rattle.am_search.specs.Start.{first_of_start, at_or_after}

-- All prefixes of the choices over labels of these sizes, with the empty prefix and the whole
-- choices. They are in preorder: a prefix comes before those that extend it, and otherwise the
-- order is that of a dictionary. No code builds this list.
-- Source: own choice.
-- Example: for the sizes 2 and 1 they are the empty prefix, 0, 0 0, 1 and 1 0.
abbrev pub all_prefixes : List ℕ → List (List ℕ)
all_prefixes [] = [] ∷ []
all_prefixes (size ∷ sizes) =
    [] ∷ flat_map (λ p. map (λ prefix. p ∷ prefix) (all_prefixes sizes)) (range_with_len 0 size)

-- The proper fronts of a prefix: the shorter prefixes that it begins with, the empty one first.
abbrev pub proper_fronts : List ℕ → List (List ℕ)
proper_fronts [] = []
proper_fronts (p ∷ prefix) = [] ∷ map (λ front. p ∷ front) (proper_fronts prefix)

-- The completions of a prefix from a start on, in declared order.
abbrev pub completions_from : List ℕ → Start → List ℕ → List (List ℕ)
completions_from sizes start prefix =
    at_or_after (first_of_start sizes start) (completions sizes prefix)

-- A search visits a prefix, and judges it, if the verdict at each of its proper fronts is `Open`
-- and if it has a completion from the start on. `visited` lists the prefixes that a search visits,
-- in preorder.
-- Source: own choice.
-- Example: over the sizes 3 and 2, let the verdict be `Open` at the empty prefix and at 0, `Yes` at
-- 0 1, and `No` at 0 0, at 1 and at 2. A search from the first choice on visits the empty prefix,
-- 0, 0 0, 0 1, 1 and 2. One that begins after the choice 0 1 visits the empty prefix, 1 and 2.
abbrev pub is_visited : List ℕ → (List ℕ → Verdict) → Start → List ℕ → Bool
is_visited sizes verdict start prefix =
    list_all (λ front. is_open (verdict front)) (proper_fronts prefix)
    && nat_lt 0 (length (completions_from sizes start prefix))

abbrev pub visited : List ℕ → (List ℕ → Verdict) → Start → List (List ℕ)
visited sizes verdict start = filter (is_visited sizes verdict start) (all_prefixes sizes)

-- `given_at` is what a visited prefix gives: its completions from the start on if its verdict is
-- `Yes`, and otherwise nothing. `given_by` is what several prefixes give, one after the other.
-- Source: own choice.
-- Example: over the sizes 3 and 2, if the verdict at 1 is `Yes`, the prefix 1 gives 1 0 and 1 1. If
-- the start is after the choice 1 0, it gives 1 1 alone. A prefix whose verdict is `Open` or `No`
-- gives nothing.
abbrev pub given_at : List ℕ → (List ℕ → Verdict) → Start → List ℕ → List (List ℕ)
given_at sizes verdict start prefix =
    if is_yes (verdict prefix) then completions_from sizes start prefix else []

abbrev pub given_by : List ℕ → (List ℕ → Verdict) → Start → List (List ℕ) → List (List ℕ)
given_by sizes verdict start prefixes = flat_map (given_at sizes verdict start) prefixes

-- `visited_under` lists the prefixes that are visited under a budget: the first ones, as many as
-- the budget says, or all without a budget. `given_under` is what these prefixes give.
-- Source: own choice.
-- Example: let the empty prefix, 0, 0 0, 0 1, 1 and 2 be visited, and let the verdict be `Yes` only
-- at 0 1, which is a whole choice. A budget of 3 leaves out 0 1, 1 and 2, and nothing is given. A
-- budget of 6 leaves out nothing, and 0 1 is given, as without a budget.
abbrev pub up_to_budget : Option ℕ → List (List ℕ) → List (List ℕ)
up_to_budget None prefixes = prefixes
up_to_budget (Some budget) prefixes = take budget prefixes

abbrev pub visited_under : List ℕ → (List ℕ → Verdict) → Start → Option ℕ → List (List ℕ)
visited_under sizes verdict start budget = up_to_budget budget (visited sizes verdict start)

abbrev pub given_under : List ℕ → (List ℕ → Verdict) → Start → Option ℕ → List (List ℕ)
given_under sizes verdict start budget =
    given_by sizes verdict start (visited_under sizes verdict start budget)

-- How far a search has come: the prefixes that it has judged are the first of those that it visits
-- under its budget, in order, and the choices that it has given are the first of those that the
-- judged prefixes give.
-- Source: own choice.
-- Example: if the empty prefix, 0, 0 0, 0 1, 1 and 2 are visited, a search that has judged the
-- first four of them has come that far, whether or not it has given the completions of 0 1.
pub record IsPartOfSearch (sizes : List ℕ) (verdict : List ℕ → Verdict) (start : Start)
    (budget : Option ℕ) (judged given : List (List ℕ)) : Type 0 where
  pub judged_first : judged ≡ take (length judged) (visited_under sizes verdict start budget)
  pub given_first : (rest : List (List ℕ))
      × (given ++ rest ≡ given_by sizes verdict start judged)

-- A search is over: it has judged every prefix that it visits under its budget, and given every
-- choice that these prefixes give.
-- Source: own choice.
-- Example: without a budget it has then given all answers from its start on.
pub record IsWholeSearch (sizes : List ℕ) (verdict : List ℕ → Verdict) (start : Start)
    (budget : Option ℕ) (judged given : List (List ℕ)) : Type 0 where
  pub judged_all : judged ≡ visited_under sizes verdict start budget
  pub given_all : given ≡ given_under sizes verdict start budget

-- A search has stopped at a prefix: it has judged as many prefixes as its budget allows, the prefix
-- is the next one that it would visit, and it has given every choice that the judged prefixes give.
-- Source: own choice.
-- Example: if the empty prefix, 0, 0 0, 0 1, 1 and 2 are visited, and the verdict is `Yes` only at
-- 0 1, a search with a budget of 5 stops at 2. It has judged the other five, and given 0 1.
pub record IsStoppedSearch (sizes : List ℕ) (verdict : List ℕ → Verdict) (start : Start)
    (budget : Option ℕ) (judged given : List (List ℕ)) (prefix : List ℕ) : Type 0 where
  pub used : budget ≡ Some (length judged)
  pub next : slice_get (visited sizes verdict start) (length judged) ≡ Some prefix
  pub given_all : given ≡ given_by sizes verdict start judged

-- A choice begins with the last of some prefixes.
pub record BeginsWithLast (prefixes : List (List ℕ)) (choice : List ℕ) : Type 0 where
  pub depth : ℕ
  pub last : slice_get prefixes (length prefixes - 1) ≡ Some (take depth choice)
