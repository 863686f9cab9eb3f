use Rattle.std.proofs.Common.{◌≡◌, ◌++◌, map, take}
use Rattle.std.specs.List.{flat_map, enumerate_from, zip}
use Rattle.am_config.specs.ConfigView.{config_view}
use Rattle.am_report_texts.specs.LineView.{line_view}
use Rattle.am_firing.specs.FiringLines.{receiver_lines}
use Rattle.am_firing.proofs.unreached_lines.push_receiver_lines.Given as goal

-- the lines of the receivers so far
abbrev pub invariant-loop-i : goal.invariant-loop-i
invariant-loop-i l =
    map line_view l.lines.items
    ≡ map line_view l.initial.lines.items
    ++ flat_map (receiver_lines l.whose (config_view l.config))
    (take l.i (enumerate_from 0 (zip l.reached l.findings)))
