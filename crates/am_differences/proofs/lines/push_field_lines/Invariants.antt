use Rattle.std.proofs.Common.{◌≡◌, ◌++◌, map, take}
use Rattle.am_report_texts.specs.LineView.{line_view}
use Rattle.am_differences.specs.PartLines.{field_line}
use Rattle.am_differences.specs.PartsView.{difference_view}
use Rattle.am_differences.proofs.lines.push_field_lines.Given as goal

abbrev pub invariant-loop-difference : goal.invariant-loop-difference
invariant-loop-difference l =
    map line_view l.lines.items
    ≡ map line_view l.initial.lines.items
    ++ map field_line (map difference_view (take l.difference-index l.difference-items))
