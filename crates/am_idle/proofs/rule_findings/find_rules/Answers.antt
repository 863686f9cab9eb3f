-- One more rule, or the first that is refused.
use Rattle.std.proofs.Common.{◌∙◌, subst}
use Rattle.am_labels.specs.Space.{Space}
use Rattle.am_complete.proofs.Pushed.{one_more_passes}
use Rattle.am_report_texts.proofs.PieceSteps.{item_here}
use Rattle.am_idle.specs.Rules.{IsRuleFinding}
use Rattle.am_idle.specs.RuleFindings.{IsRuleAccepted, IsRuleRefused}
use Rattle.am_idle.proofs.SilenceSteps.{zip_more, same_space}
use Rattle.am_idle.proofs.rule_findings.find_rules.Goals as goal

pub returns-in-Err-clause-refused : goal.returns-in-Err-clause-refused
returns-in-Err-clause-refused c = λ remembered.
    let rules = c.args.rules.now in
    let rule = c.index-rules-i.result in
    record {
      rule = rule;
      there = item_here rules c.loop-i.i rule c.loop-i-test.true c.index-rules-i.is;
      before = c.loop-i.invariant.accepted;
      refused = subst (λ (t : Space). IsRuleRefused c.args.alphabet t rule c.in-Err.kind)
          (same_space c.loop-i.space c.args.space.now c.loop-i.invariant.labels c.requires
          c.loop-i.invariant.impossible)
          (c.in-Err.ensures.refused remembered);
    }

pub loop-i-preserved : goal.loop-i-preserved
loop-i-preserved c =
    let s = c.args.space.now in
    let a = c.args.alphabet in
    let rules = c.args.rules.now in
    let i = c.loop-i.i in
    let rule = c.index-rules-i.result in
    let finding = c.in-Ok.finding in
    let kept = c.loop-i.invariant in
    let at = item_here rules i rule c.loop-i-test.true c.index-rules-i.is in
    let same = same_space c.loop-i.space s kept.labels c.requires kept.impossible in
    let is : IsRuleFinding a s rule finding =
    subst (λ (t : Space). IsRuleFinding a t rule finding) same c.in-Ok.ensures.found in
    let accepted : IsRuleAccepted a s rule =
    subst (λ (t : Space). IsRuleAccepted a t rule) same c.in-Ok.ensures.accepted in
    record {
      found = zip_more (IsRuleFinding a s) rules i rule finding c.loop-i.found.items _ at
          c.in_ok-push_finding-in-Ok.ensures.added kept.found is;
      accepted = one_more_passes (IsRuleAccepted a s) rules i rule at kept.accepted accepted;
      labels = c.find_rule.ensures.labels;
      impossible = c.find_rule.ensures.impossible ∙ kept.impossible;
    }
