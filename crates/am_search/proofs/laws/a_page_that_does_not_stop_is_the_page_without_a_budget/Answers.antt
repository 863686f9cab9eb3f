use Rattle.std.proofs.Common.{rules}
use Rattle.am_search.proofs.BudgetPages.{same_unstopped, same_next, same_end}
use Rattle.am_search.proofs.laws.a_page_that_does_not_stop_is_the_page_without_a_budget.Goals as goal

pub returns : goal.returns
returns c = search (rules, same_unstopped, same_next, same_end)
