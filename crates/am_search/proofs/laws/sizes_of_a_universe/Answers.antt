use Rattle.am_search.proofs.TokenTexts.{sizes_of_universe}
use Rattle.am_search.proofs.laws.sizes_of_a_universe.Goals as goal

pub returns : goal.returns
returns c = record { sizes = sizes_of_universe }
