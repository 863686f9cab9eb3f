use Rattle.am_search.proofs.Pages.{answers_exactly}
use Rattle.am_search.proofs.laws.answers_are_the_true_choices.Goals as goal

pub returns : goal.returns
returns c = record { exactly = answers_exactly }
