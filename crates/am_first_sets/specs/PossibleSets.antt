-- The part of `PossibleSets` that contracts name.
use Rattle.am_labels.specs.Space.{Space}
use Rattle.am_first_sets.specs.declared.possible_sets.PossibleSets.{PossibleSets}

-- The space.
abbrev pub possible_space : PossibleSets → Space
possible_space possible = possible.space.now
