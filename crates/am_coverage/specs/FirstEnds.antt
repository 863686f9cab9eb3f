-- First ends: the first choice that ends at each route, and what follows from these.
use Rattle.std.specs.Prelude.{ℕ, List, Option, Some, None, Bool, is_some, map, ◌&&◌, ◌==◌}
use Rattle.std.specs.Prelude.{if◌then◌else◌}
use Rattle.std.specs.List.{filter, list_any, fold}
use Rattle.am_labels.specs.Space.{Space}
use Rattle.am_config.specs.ConfigFile.{Configuration, RouteTree, receiver_of}
use Rattle.am_config.specs.Path.{leads_through}
use Rattle.am_config.specs.RoutePaths.{all_routes}
use Rattle.am_search.specs.Start.{comes_before}
use Rattle.am_coverage.specs.declared.coverage.RouteCoverage.{RouteCoverage}
use Rattle.am_coverage.specs.declared.first_ends.FirstEnd.{FirstEnd}
use Rattle.am_coverage.specs.Coverage.{first_end, live_or, dead_route}

-- The first end of a route, which is at this path, with its receiver; and those of all routes.
abbrev pub first_end_of : Space → Configuration → List ℕ × RouteTree → FirstEnd
first_end_of s c found = record {
  path = found.0;
  receiver = receiver_of found.1;
  choice = first_end s c found.0;
}

abbrev pub first_ends : Space → Configuration → List FirstEnd
first_ends s c = map (first_end_of s c) (all_routes c)

-- Some label set ends at a route or below it, by the first ends of all routes. And the coverage of
-- a route, by its own and those of all.
abbrev pub is_entered : List FirstEnd → List ℕ → Bool
is_entered ends path = list_any (λ end. is_some end.choice && leads_through path end.path) ends

abbrev pub coverage_by : List FirstEnd → FirstEnd → RouteCoverage
coverage_by ends end = live_or (dead_route (is_entered ends end.path)) end.choice

-- The earlier of two choices, in declared order, and the earliest of a list. Each choice may be
-- missing.
-- Source: own choice.
-- Example: the earliest of 0 1, a missing choice and 0 0 is 0 0. If all are missing, there is none.
abbrev pub earlier : Option (List ℕ) → Option (List ℕ) → Option (List ℕ)
earlier None other = other
earlier (Some choice) None = Some choice
earlier (Some choice) (Some other) =
    if comes_before other choice then Some other else Some choice

abbrev pub earliest : List (Option (List ℕ)) → Option (List ℕ)
earliest choices = fold earlier None choices

-- The earliest of the first ends of the routes with a receiver.
abbrev pub earliest_to : List FirstEnd → ℕ → Option (List ℕ)
earliest_to ends receiver =
    earliest (map (λ end. end.choice) (filter (λ end. end.receiver == receiver) ends))
