-- How many masks searches look at, and the limits of that.
use Rattle.std.specs.Prelude.{◌≡◌, ◌+◌, ℕ, List, Option, None, Some, Bool, ⊤, ◌==◌, ◌||◌}
use Rattle.std.specs.List.{sum}
use Rattle.am_first_sets.specs.declared.left.Left.{Left}
use Rattle.am_first_sets.specs.declared.limits.TheConstants.{MAX_LOOKS, MAX_REPORT_LOOKS}

-- What is left of a budget with limits and what was looked at, time after time, make up the limits:
-- that for a route, rule or silence, and that for the report.
-- Source: own choice.
-- Example: after 3 and 5 looks at the first route, 8 looks less than each limit are left.
abbrev pub IsAccounted : Option Left → List ℕ → List ℕ → Type 0
IsAccounted None item report = ⊤
IsAccounted (Some left) item report =
    (sum item + left.item ≡ MAX_LOOKS) × (sum report + left.report ≡ MAX_REPORT_LOOKS)

-- A number of looks is one of the limits.
abbrev pub is_limit : ℕ → Bool
is_limit n = n == MAX_LOOKS || n == MAX_REPORT_LOOKS
