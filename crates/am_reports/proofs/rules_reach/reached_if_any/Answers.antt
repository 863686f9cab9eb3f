use Rattle.am_reports.proofs.rules_reach.reached_if_any.Goals as goal

pub returns-in-Err-clause-refused : goal.returns-in-Err-clause-refused
returns-in-Err-clause-refused c = rw c.in-Some.is c.in-Err.ensures.refused
