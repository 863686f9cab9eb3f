-- The reports of routes and of receivers. (This project's own.)
use Rattle.std.specs.Prelude.{ℕ, List, [], ◌++◌, codes, Option, Some, None, unwrap_or, slice_get}
use Rattle.std.specs.List.{flat_map}
use Rattle.am_universe.specs.Universe.{Label}
use Rattle.am_universe.specs.Text.{quoted_text}
use Rattle.am_universe.specs.WrittenLabelSet.{set_text}
use Rattle.am_config.specs.Path.{path_text}
use Rattle.am_coverage.specs.declared.coverage.RouteCoverage.{RouteCoverage}
use Rattle.am_coverage.specs.declared.coverage.RouteCoverage.TheVariants as route_is
use Rattle.am_coverage.specs.declared.receiver_coverage.ReceiverFound.{ReceiverFound}
use Rattle.am_coverage.specs.declared.route_coverage.RouteFound.{RouteFound}

-- The coverage of a route, and that of a receiver by the first choice that goes to it, in words. If
-- it is live, the label set that shows this follows.
abbrev pub live_text : List Label → List ℕ → List ℕ
live_text u choice = codes " live " ++ set_text u choice

abbrev pub route_status : List Label → RouteCoverage → List ℕ
route_status u (route_is.Live choice) = live_text u choice
route_status u route_is.Entered = codes " dead entered"
route_status u route_is.NeverEntered = codes " dead never-entered"

abbrev pub receiver_status : List Label → Option (List ℕ) → List ℕ
receiver_status u (Some choice) = live_text u choice
receiver_status u None = codes " unmatched"

-- The line of a route: its path, and its coverage in words. And the report of some routes: the line
-- of each, and then `# end`.
-- Source: own choice.
-- Example: `/ live {team="web"}`, `/0 dead entered` and `/1 dead never-entered` are three lines.
abbrev pub route_line : List Label → RouteFound → List ℕ
route_line u found = path_text found.path ++ (route_status u found.coverage ++ codes "\n")

abbrev pub routes_text : List Label → List RouteFound → List ℕ
routes_text u routes = flat_map (route_line u) routes ++ codes "# end\n"

-- The line of one of the receivers with these names: its name in quotes, and its coverage in words.
-- And the report of some receivers: the line of each, and then `# end`.
-- Source: own choice.
-- Example: `"dba" live {team="db"}` and `"idle" unmatched` are two lines.
abbrev pub receiver_line : List Label → List (List ℕ) → ReceiverFound → List ℕ
receiver_line u names found =
    quoted_text (unwrap_or (slice_get names found.receiver) [])
    ++ (receiver_status u found.choice ++ codes "\n")

abbrev pub receivers_text : List Label → List (List ℕ) → List ReceiverFound → List ℕ
receivers_text u names receivers = flat_map (receiver_line u names) receivers ++ codes "# end\n"
