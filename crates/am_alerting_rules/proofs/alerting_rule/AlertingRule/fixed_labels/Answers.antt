use Rattle.std.proofs.Common.{[], ap, arith, fold, sym, take, ◌+◌, ◌∙◌, ◌≡◌, ◌∷◌}
use Rattle.std.proofs.lemmas.Grind.{common_steps}
use Rattle.std.proofs.lemmas.List.Sums.{fold_more}
use Rattle.am_alerting_rules.specs.RuleAlerts.{alert_name, fixed_labels, with_fixed}
use Rattle.am_alerting_rules.specs.RuleView.{pairs_view}
use Rattle.am_alerting_rules.proofs.FixedLabels.{Labels, fixed_distinct, fixed_named}
use Rattle.am_alerting_rules.proofs.alerting_rule.AlertingRule.fixed_labels.Goals as goal
use Rattle.am_alerting_rules.proofs.alerting_rule.AlertingRule.fixed_labels.Goals.{then-not-is_template+then-not-has_name+in_ok-push, else-not-is_template, else-not-is_template-via-then-not-is_template+else-not-has_name, else-not-is_template-via-else-not-is_template}

pub loop-label-preserved : goal.loop-label-preserved
loop-label-preserved c =
    let l = c.loop-label in
    let labels = c.args.self.now.labels in
    let start = (alert_name, c.args.self.now.name) ∷ [] in
    let label = c.label-item.result in
    let next : fold with_fixed start (take (l.label-index + 1) labels)
    ≡ with_fixed (pairs_view l.found.items) label =
    fold_more with_fixed start labels l.label-index label
    (rw c.labels-label-items.ensures.labels at c.loop-label-test.true)
    ∙ ap (λ x. with_fixed (fold with_fixed start (take l.label-index labels)) x)
    (sym (rw c.labels-label-items.ensures.labels at c.label-item.is))
    ∙ ap (λ (b : Labels). with_fixed b label) (sym l.invariant) in
    rw next (elim c.if-not-is_template.branch [
      | then-not-is_template+then-not-has_name+in_ok-push w ↦ grind (arith, common_steps)
      | else-not-is_template w ↦ rw w.found-is (elim w.else-not-is_template.branch [
        | else-not-is_template-via-then-not-is_template+else-not-has_name v ↦ grind (arith, common_steps)
        | else-not-is_template-via-else-not-is_template v ↦ grind (arith, common_steps)
      ])
    ])

pub returns-clause-distinct : goal.returns-clause-distinct
returns-clause-distinct c =
    let all : pairs_view c.loop-label.found.items ≡ fixed_labels c.args.self.now =
    grind (arith, common_steps) in
    rw all (fixed_distinct c.args.self.now)

pub returns-clause-named : goal.returns-clause-named
returns-clause-named c =
    let all : pairs_view c.loop-label.found.items ≡ fixed_labels c.args.self.now =
    grind (arith, common_steps) in
    rw all (fixed_named c.args.self.now
    (record { rule = rw c.name.ensures.name at c.name.ensures.some; labels = rw c.labels-label-items.ensures.labels at c.labels-label-items.ensures.named }))
