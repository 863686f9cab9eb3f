use Rattle.std.proofs.Common.{◌≡◌, ◌++◌, take, codes, string_bytes}
use Rattle.am_universe_command.specs.UniverseText.{labels_text}
use Rattle.am_universe_command.proofs.universe_file.universe_text.Given as goal

abbrev pub invariant-loop-i : goal.invariant-loop-i
invariant-loop-i l =
    string_bytes l.text ≡ codes "{\"labels\": [" ++ labels_text (take l.i l.universe)
