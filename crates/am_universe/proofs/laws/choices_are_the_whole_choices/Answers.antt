use Rattle.am_universe.proofs.ChoiceLemmas.{choices_whole}
use Rattle.am_universe.proofs.laws.choices_are_the_whole_choices.Goals as goal

pub returns : goal.returns
returns c = record { exactly = choices_whole }
