use Rattle.am_search.proofs.Pages.{page_rest, next_is_start, more_left}
use Rattle.am_search.proofs.laws.a_page_and_its_rest_are_the_answers.Goals as goal

pub returns : goal.returns
returns c = record { rest = page_rest; start = next_is_start; more = more_left }
