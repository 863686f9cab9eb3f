use Rattle.am_search.proofs.SearchChains.{goes_on, search_chain_ends}
use Rattle.am_search.proofs.laws.pages_under_budgets_come_to_an_end.Goals as goal

pub returns : goal.returns
returns c = record {
  later = λ ns truth verdict start next page law h e. (goes_on ns truth verdict start page law h next e).later;
  at_most = search_chain_ends;
}
