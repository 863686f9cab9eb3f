use Rattle.std.proofs.Common.{◌≡◌, ◌++◌, map, take}
use Rattle.std.specs.List.{flat_map, enumerate_from, zip}
use Rattle.am_config.specs.ConfigView.{config_view}
use Rattle.am_report_texts.specs.LineView.{line_view}
use Rattle.am_firing.specs.FiringLines.{rule_lines}
use Rattle.am_firing.proofs.unreached_lines.push_rule_lines.Given as goal

-- the lines of the rules so far
abbrev pub invariant-loop-i : goal.invariant-loop-i
invariant-loop-i l =
    map line_view l.lines.items
    ≡ map line_view l.initial.lines.items
    ++ flat_map (rule_lines l.whose)
    (take l.i (enumerate_from 0 (zip (config_view l.config).rules (zip l.sides l.findings))))
