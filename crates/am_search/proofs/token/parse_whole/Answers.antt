use Rattle.std.proofs.Common.{rules}
use Rattle.std.proofs.lemmas.List.{length-map}
use Rattle.am_search.proofs.Positions.{joined-injective}
use Rattle.am_search.proofs.TokenTexts.{small_positions, sizes_of_universe}
use Rattle.am_search.proofs.token.parse_whole.Goals as goal

pub returns-else-len : goal.returns-else-len
returns-else-len c = λ d whole e. search (rules, sizes_of_universe, joined-injective, small_positions, length-map)
