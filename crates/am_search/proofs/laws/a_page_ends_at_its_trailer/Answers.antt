use Rattle.am_search.proofs.Pages.{up_to_trailer, to_the_end}
use Rattle.am_search.proofs.laws.a_page_ends_at_its_trailer.Goals as goal

pub returns : goal.returns
returns c = record { up_to = up_to_trailer; to_the_end = to_the_end }
