use Rattle.am_rule_outcomes.specs.NarrowingView.{rule_outcomes_view}
use Rattle.am_reports.proofs.RulesReached.{matched_exactly}
use Rattle.am_reports.proofs.rules_reach.is_matched.Goals as goal

pub returns-in-Ok-clause-matched : goal.returns-in-Ok-clause-matched
returns-in-Ok-clause-matched c =
    matched_exactly c.args.alphabet c.args.space.now c.args.matchers.now c.args.rules.now
    (rule_outcomes_view c.in-Ok.found) c.in-Ok.ensures.found c.requires.names c.requires.texts
    c.some_goes.result c.some_goes.ensures
