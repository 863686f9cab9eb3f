use Rattle.am_unseen.proofs.FirstMentions.{names_once}
use Rattle.am_unseen.proofs.laws.each_name_is_mentioned_first_once.Goals as goal

pub returns : goal.returns
returns c = record { names = names_once }
