use Rattle.std.proofs.Common.{rules}
use Rattle.am_search.proofs.WalkBudgets.{part_of_search}
use Rattle.am_search.proofs.answers.Answers.state.Goals as goal

pub returns-clause-judged : goal.returns-clause-judged
returns-clause-judged g c = search (rules, part_of_search)
