use Rattle.am_rule_outcomes.specs.RuleOutcomes.{IsRuleAlert}
use Rattle.am_rule_outcomes.proofs.OutcomesOfRules.{outcomes_of_each, outcomes_of_rule}
use Rattle.am_rule_outcomes.proofs.RuleLaws.{told_by_matchers}
use Rattle.am_rule_outcomes.proofs.SilencedOutcomes.{rule_outcomes_are}
use Rattle.am_rule_outcomes.proofs.laws.outcomes_of_a_narrowed_universe_are_those_of_the_rule.Goals as goal

pub returns : goal.returns
returns c = record {
  outcomes = λ a s u asked k r h. outcomes_of_rule a s u asked k h r;
  each = λ a s u asked k rules h. outcomes_of_each a s u asked k h rules;
  told = λ k x y. told_by_matchers x y k;
  receivers = λ a s r. rule_outcomes_are (IsRuleAlert a s r);
}
