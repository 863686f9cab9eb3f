-- What contracts see of a budget of steps.
use Rattle.std.specs.Prelude.{ℕ}
use Rattle.am_command_line.specs.declared.steps.Steps.{Steps}

-- How many steps a budget has.
abbrev pub step_count : Steps → ℕ
step_count steps = steps.count
