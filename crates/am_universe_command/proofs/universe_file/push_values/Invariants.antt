use Rattle.std.proofs.Common.{◌≡◌, ◌++◌, take, Some, string_bytes, slice_get}
use Rattle.am_universe.specs.Universe.{Label}
use Rattle.am_universe_command.specs.UniverseText.{values_text}
use Rattle.am_universe_command.proofs.universe_file.push_values.Given as goal

abbrev pub invariant-loop-j : goal.invariant-loop-j
invariant-loop-j l =
    (label : Label) → slice_get l.universe l.fn.i ≡ Some label
    → string_bytes l.text ≡ string_bytes l.initial.text ++ values_text (take l.j label.values)
