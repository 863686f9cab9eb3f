use Rattle.std.proofs.Common.{◌≡◌, ◌++◌, map}
use Rattle.std.specs.List.{flat_map, range_with_len}
use Rattle.am_report_texts.specs.LineView.{line_view}
use Rattle.am_firing.specs.FiringLines.{hiding_lines}
use Rattle.am_firing.proofs.hiding_lines.push_silence_lines.Given as goal

-- the lines for the receivers so far
abbrev pub invariant-loop-receiver : goal.invariant-loop-receiver
invariant-loop-receiver l =
    map line_view l.lines.items
    ≡ map line_view l.initial.lines.items
    ++ flat_map (hiding_lines l.world (l.position, l.silence)) (range_with_len 0 l.receiver)
