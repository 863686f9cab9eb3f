-- The text is read back as the universe and its lists.
use Rattle.am_universe_command.proofs.SaidByText.{universe_said, texts_kept}
use Rattle.am_universe_command.proofs.laws.the_text_of_a_universe_says_it.Goals as goal

pub returns : goal.returns
returns c = record { says = universe_said; word_for_word = texts_kept }
