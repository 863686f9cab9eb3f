use Rattle.std.proofs.Common.{take}
use Rattle.std.specs.List.{AllZip}
use Rattle.am_config.specs.ConfigView.{config_view}
use Rattle.am_config.specs.RoutePaths.{all_routes}
use Rattle.am_lint.specs.Table.{IsTabled}
use Rattle.am_lint.proofs.table.Table.of.Given as goal

-- the routes so far stand in the table
abbrev pub invariant-loop-i : goal.invariant-loop-i
invariant-loop-i l =
    AllZip (IsTabled l.space.labels) (take l.i (all_routes (config_view l.config))) l.routes.items
