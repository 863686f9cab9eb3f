-- One more inhibition rule.
use Rattle.std.proofs.Common.{◌∙◌, subst}
use Rattle.am_labels.specs.Space.{Space}
use Rattle.am_report_texts.proofs.PieceSteps.{item_here}
use Rattle.am_idle.proofs.SilenceSteps.{zip_more, same_space}
use Rattle.am_reports.specs.RulesReach.{AreSides, IsMatched}
use Rattle.am_reports.proofs.rules_reach.sides_matched.Goals as goal

pub loop-rule-preserved : goal.loop-rule-preserved
loop-rule-preserved c =
    let a = c.args.alphabet in
    let s = c.args.space.now in
    let rules = c.args.rules.now in
    let inhibition = c.args.inhibition.now in
    let i = c.loop-rule.rule-index in
    let rule = c.rule-item.result in
    let kept = c.loop-rule.invariant in
    let at = item_here inhibition i rule c.loop-rule-test.true c.rule-item.is in
    let behind = c.in_ok-source.ensures.impossible ∙ kept.impossible in
    let source : IsMatched a s rules rule.source c.in_ok-source.source =
    subst (λ (t : Space). IsMatched a t rules rule.source c.in_ok-source.source)
    (same_space c.loop-rule.space s kept.labels c.requires.labels kept.impossible)
    (rw c.source.ensures.source at c.in_ok-source.ensures.matched) in
    let target : IsMatched a s rules rule.target c.in_ok-target.target =
    subst (λ (t : Space). IsMatched a t rules rule.target c.in_ok-target.target)
    (same_space c.is_matched.new.space s c.in_ok-source.ensures.labels c.requires.labels behind)
    (rw c.target.ensures.target at c.in_ok-target.ensures.matched) in
    record {
      each = zip_more (AreSides a s rules) inhibition i rule
          (c.in_ok-source.source, c.in_ok-target.target) c.loop-rule.found.items _ at
          c.in_ok-push.ensures.items kept.each (source, target);
      labels = c.in_ok-target.ensures.labels;
      impossible = c.in_ok-target.ensures.impossible ∙ behind;
    }
