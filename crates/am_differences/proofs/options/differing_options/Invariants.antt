use Rattle.std.proofs.Common.{◌≡◌, not, take}
use Rattle.std.specs.List.{filter}
use Rattle.am_differences.specs.Options.{option_positions, have_same_option, options_of_pairs}
use Rattle.am_differences.proofs.options.differing_options.Given as goal

abbrev pub invariant-loop-position : goal.invariant-loop-position
invariant-loop-position l =
    l.found.items
    ≡ filter (λ k. not (have_same_option (options_of_pairs l.pairs) k))
    (take l.position option_positions)
