use Rattle.am_search.proofs.SearchChains.{search_rest, goes_on}
use Rattle.am_search.proofs.laws.a_page_under_a_budget_and_its_rest_are_the_answers.Goals as goal

pub returns : goal.returns
returns c = record {
  rest = search_rest;
  start = λ ns truth verdict start next page law h e. (goes_on ns truth verdict start page law h next e).is_start;
}
