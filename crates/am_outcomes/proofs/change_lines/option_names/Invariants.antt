use Rattle.std.proofs.Common.{◌≡◌, map, take}
use Rattle.am_differences.specs.Options.{option_name}
use Rattle.am_outcomes.proofs.change_lines.option_names.Given as goal

-- the names so far
abbrev pub invariant-loop-option : goal.invariant-loop-option
invariant-loop-option l =
    map (λ n. n.0.now) l.names.items ≡ map option_name (take l.option-index l.options)
