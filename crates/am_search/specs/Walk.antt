-- Where a search stands, and what it has judged and given so far.
use Rattle.std.specs.Prelude.{◌≡◌, ℕ, ◌<◌, ◌≤◌, ◌-◌, List, ◌++◌, length, take, ◌+◌, slice_get}
use Rattle.std.specs.Prelude.{slice_index, nat_eq, if◌then◌else◌, Option, Some, None, option_map}
use Rattle.std.specs.List.{starts_with}
use Rattle.am_universe.specs.Choice.{IsWhole}
use Rattle.am_universe.specs.Completions.{completions}
use Rattle.am_search.specs.declared.start.Start.{Start}
use Rattle.am_search.specs.declared.stage.Stage.{Stage}
use Rattle.am_search.specs.declared.stage.Stage.TheVariants.{Judging, Giving, Done}
use Rattle.am_search.specs.declared.verdict.Verdict.{Verdict}
use Rattle.am_search.specs.declared.verdict.Verdict.TheVariants.{Yes}
use Rattle.am_search.specs.Start.{first_of_start, at_or_after}
use Rattle.am_search.specs.Visits.{visited, given_by}

-- A choice, if there is one and it begins with the prefix.
abbrev pub if_begins : List ℕ → Option (List ℕ) → Option (List ℕ)
if_begins prefix None = None
if_begins prefix (Some c) = if starts_with nat_eq c prefix then Some c else None

-- The position that a search first adds to a prefix of `i` positions: if the prefix lies along a
-- choice, the position that this choice has there, and otherwise 0.
abbrev pub first_position : Option (List ℕ) → ℕ → ℕ
first_position None i = 0
first_position (Some c) i = slice_index c i

-- `left` is what is left of a budget, if there is one, after the prefixes in `judged` were judged.
abbrev pub IsLeft : Option ℕ → Option ℕ → List (List ℕ) → Type 0
IsLeft budget left judged = budget ≡ option_map (λ n. length judged + n) left

-- A search that has stopped stands at the prefix that would be judged next, and nothing is left of
-- its budget.
abbrev pub IsAtStop : Stage → List ℕ → Option ℕ → List ℕ → Type 0
IsAtStop stage current left prefix =
    (stage ≡ Judging) × (current ≡ prefix) × (left ≡ Some 0)

module _ (sizes : List ℕ) (verdict : List ℕ → Verdict) (start : Start) where
  -- The prefix is the first of those that are still to be judged. `along` is the choice at which
  -- the start begins, if that choice begins with the prefix. All choices that the judged prefixes
  -- give have been given.
  pub record IsJudging (prefix : List ℕ) (along : Option (List ℕ)) (judged given : List (List ℕ))
      : Type 0 where
    pub next : slice_get (visited sizes verdict start) (length judged) ≡ Some prefix
    pub along_is : along ≡ if_begins prefix (first_of_start sizes start)
    pub given_all : given ≡ given_by sizes verdict start judged

  -- The first `depth` positions of the choice are the prefix that was judged last, and its verdict
  -- was `Yes`. Of its completions, those from the choice on are left.
  pub record IsGiving (depth : ℕ) (choice : List ℕ) (judged given : List (List ℕ)) : Type 0 where
    pub some : 0 < length judged
    pub last : slice_get (visited sizes verdict start) (length judged - 1)
        ≡ Some (take depth choice)
    pub yes : verdict (take depth choice) ≡ Yes
    pub whole : IsWhole sizes choice
    pub depth_is : depth ≤ length choice
    pub given_next : given ++ at_or_after (Some choice) (completions sizes (take depth choice))
        ≡ given_by sizes verdict start judged

  -- All prefixes that the search visits have been judged, and all choices that these give have been
  -- given.
  pub record IsDone (judged given : List (List ℕ)) : Type 0 where
    pub all : length (visited sizes verdict start) ≤ length judged
    pub given_all : given ≡ given_by sizes verdict start judged

  -- The judged prefixes are the first of all that the search visits, and the rest is as the stage
  -- says.
  pub record IsWalk (stage : Stage) (current : List ℕ) (along : Option (List ℕ))
      (judged given : List (List ℕ)) : Type 0 where
    pub front : judged ≡ take (length judged) (visited sizes verdict start)
    pub judging : stage ≡ Judging → IsJudging current along judged given
    pub giving : (depth : ℕ) → stage ≡ Giving depth → IsGiving depth current judged given
    pub done : stage ≡ Done → IsDone judged given
