use Rattle.am_labels.proofs.SpaceLaws.{space_choices, space_choices_sorted}
use Rattle.am_labels.proofs.laws.choices_of_a_space_are_the_possible_ones.Goals as goal

pub returns : goal.returns
returns c = record { exactly = space_choices; ascending = space_choices_sorted }
