-- The lines of the alerts of routes. (This project's own.)
use Rattle.std.specs.Prelude.{List, [], ◌∷◌, ◌++◌, map, Option, Some, None, codes}
use Rattle.am_labels.specs.Matcher.{Matcher}
use Rattle.am_config.specs.ConfigFile.{Configuration}
use Rattle.am_report_texts.specs.Line.{Line, Piece, Report, Words, Value, Word, Text, Path}
use Rattle.am_report_texts.specs.Line.{Matchers, Lists}
use Rattle.am_report_texts.specs.ReceiverNames.{receiver_name}
use Rattle.am_report_texts.specs.declared.lines.Field.TheVariants as field_is
use Rattle.am_report_texts.specs.declared.lines.Level.TheVariants as level_is
use Rattle.am_route_alerts.specs.EndMatchers.{EndMatchers}
use Rattle.am_route_alerts.specs.RouteAlerts.{RouteAlerts}

-- The word before the lists, if there are any.
abbrev pub unless_pieces : List (List Matcher) → List Piece
unless_pieces [] = []
unless_pieces (list ∷ lists) = Words (codes " unless ") ∷ []

-- Which alerts end at a route, as the end of its line.
-- Source: own choice.
-- Example: `{team="db"} unless {severity="critical"} or {env="dev"}`; or `no alert`.
abbrev pub ends_pieces : Option EndMatchers → List Piece
ends_pieces None = Value field_is.Kind (Word (codes "no alert")) ∷ []
ends_pieces (Some e) =
    Value field_is.Matchers (Matchers e.matchers)
    ∷ (unless_pieces e.unless ++ Value field_is.Unless (Lists e.unless) ∷ [])

-- The line of a route: its path, the name of its receiver, and which alerts end there. The report
-- has all lines, and then `# end`.
-- Source: own choice.
-- Example: `/2/1 "db-pager" {team="db",severity="critical"} unless {env="dev"}`.
abbrev pub route_line : Configuration → RouteAlerts → Line
route_line c route = record {
  level = level_is.Plain;
  pieces = Value field_is.Path (Path route.path) ∷ Words (codes " ")
      ∷ Value field_is.Receiver (Text (receiver_name c route.receiver)) ∷ Words (codes " ")
      ∷ ends_pieces route.ends;
}

abbrev pub routes_report : Configuration → List RouteAlerts → Report
routes_report c routes = record {
  lines = map (route_line c) routes;
  last = Words (codes "# end") ∷ [];
}
