use Rattle.std.proofs.Common.{◌≡◌, ◌++◌, map, take}
use Rattle.std.specs.List.{flat_map}
use Rattle.am_report_texts.specs.LineView.{line_view}
use Rattle.am_unseen.specs.UnseenLines.{name_lines}
use Rattle.am_unseen.proofs.unseen_lines.push_names.Given as goal

abbrev pub invariant-loop-unseen : goal.invariant-loop-unseen
invariant-loop-unseen l =
    map line_view l.lines.items ≡ map line_view l.initial.lines.items
    ++ flat_map (name_lines l.known) (take l.unseen-index l.names)
