use Rattle.std.proofs.Common.{◌≡◌, ◌++◌, take, map}
use Rattle.std.specs.List.{flat_map, enumerate_from}
use Rattle.am_config.specs.ConfigView.{config_view}
use Rattle.am_report_texts.specs.LineView.{line_view}
use Rattle.am_lint.specs.FoundView.{said_of}
use Rattle.am_lint.specs.LintLines.{said_lines, receiver_lines}
use Rattle.am_lint.proofs.lint_lines.push_lint_lines.Given as goal

-- the lines of the routes so far
abbrev pub invariant-loop-route : goal.invariant-loop-route
invariant-loop-route l =
    map line_view l.lines.items
    ≡ map line_view l.initial.lines.items
    ++ flat_map (said_lines l.universe (config_view l.config) (map said_of l.routes))
    (map said_of (take l.route-index l.routes))

-- the lines of all routes, and of the receivers so far
abbrev pub invariant-loop-i : goal.invariant-loop-i
invariant-loop-i l =
    map line_view l.lines.items
    ≡ map line_view l.initial.lines.items
    ++ flat_map (receiver_lines (config_view l.config) (map said_of l.routes))
    (take l.i (enumerate_from 0 l.receivers))
