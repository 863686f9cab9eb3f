use Rattle.std.proofs.Common.{◌≡◌, map, take}
use Rattle.am_config.specs.ConfigView.{config_view}
use Rattle.am_report_texts.specs.LineView.{route_view}
use Rattle.am_lint.specs.FoundView.{said_of}
use Rattle.am_lint.specs.LintLines.{having, shown_said}
use Rattle.am_lint.proofs.lint_lines.having.Given as goal

abbrev pub invariant-loop-route : goal.invariant-loop-route
invariant-loop-route l =
    map route_view l.shown.items
    ≡ map (shown_said (config_view l.config))
    (having l.receiver (map said_of (take l.route-index l.routes)))
