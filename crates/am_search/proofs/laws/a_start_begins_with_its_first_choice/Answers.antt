use Rattle.am_search.proofs.Pages.{none_from, begins_with}
use Rattle.am_search.proofs.laws.a_start_begins_with_its_first_choice.Goals as goal

pub returns : goal.returns
returns c = record { none = none_from; first = begins_with }
