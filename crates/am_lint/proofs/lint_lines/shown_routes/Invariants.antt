use Rattle.std.proofs.Common.{◌≡◌, map, take}
use Rattle.am_config.specs.ConfigView.{config_view}
use Rattle.am_report_texts.specs.LineView.{route_view}
use Rattle.am_lint.specs.LintLines.{shown_route}
use Rattle.am_lint.proofs.lint_lines.shown_routes.Given as goal

abbrev pub invariant-loop-path : goal.invariant-loop-path
invariant-loop-path l =
    map route_view l.shown.items
    ≡ map (shown_route (config_view l.config)) (take l.path-index l.routes)
