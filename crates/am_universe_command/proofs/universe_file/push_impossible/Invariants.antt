use Rattle.std.proofs.Common.{◌≡◌, ◌++◌, map, take, string_bytes}
use Rattle.am_universe_command.specs.UniverseText.{lists_text}
use Rattle.am_universe_command.proofs.universe_file.push_impossible.Given as goal

abbrev pub invariant-loop-i : goal.invariant-loop-i
invariant-loop-i l =
    string_bytes l.text
    ≡ string_bytes l.initial.text ++ lists_text (take l.i (map string_bytes l.impossible))
