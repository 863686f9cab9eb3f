use Rattle.std.proofs.Common.{◌≡◌, ◌∷◌, ◌++◌, [], ℕ, List, map, take, Some, true, false, option_map}
use Rattle.std.proofs.Common.{append-nil, sym, ap, ◌∙◌}
use Rattle.std.specs.Prelude.{slice_get}
use Rattle.std.proofs.lemmas.Option.{slice_get-map}
use Rattle.am_complete.proofs.Pushed.{one_longer}
use Rattle.am_config.specs.ConfigView.{config_view}
use Rattle.am_outcomes.specs.Changes.{changes_of, is_change}
use Rattle.am_outcomes.specs.OutcomesView.{lists_view}
use Rattle.am_alerting_rules.specs.RuleAlerts.{fixed_labels}
use Rattle.am_alerting_rules.specs.RuleView.{pairs_view}
use Rattle.am_rule_outcomes.specs.NarrowingView.{narrowed_view}
use Rattle.am_rule_outcomes.specs.RuleChanges.{rule_change}
use Rattle.am_rule_outcomes.specs.RuleOutcomes.{rule_outcomes_shown}
use Rattle.am_rule_outcomes.specs.ShownLabels.{shown_labels}
use Rattle.am_rule_outcomes.proofs.RulesFound.{kept_with}
use Rattle.am_rule_outcomes.proofs.rule_changes.push_changes.Goals as goal
use Rattle.am_rule_outcomes.proofs.rule_changes.push_changes.Goals.{then-is_change+in_ok-shown_labels+in_ok-push, else-is_change}

pub loop-i-preserved : goal.loop-i-preserved
loop-i-preserved c =
    let old = config_view c.args.old.now in
    let new = config_view c.args.new.now in
    let r = c.args.rule.now in
    let n = narrowed_view c.args.narrowed in
    let i = c.loop-i.i in
    let os = rule_outcomes_shown r (Some n) in
    let show : List ℕ → List (List ℕ × List ℕ) = shown_labels (fixed_labels r) n.labels in
    let o : List (List ℕ) × List (List ℕ × List ℕ) =
    (lists_view c.get.result.0.now, show c.get.result.1.now) in
    let at : slice_get os i ≡ Some o =
    slice_get-map (λ (o : List (List ℕ) × List ℕ). (o.0, show o.1)) n.outcomes i
    ∙ ap (option_map (λ (o : List (List ℕ) × List ℕ). (o.0, show o.1))) c.get.ensures.outcome in
    let start = c.args.changes.now.items in
    elim c.if-is_change.branch [
      | then-is_change+in_ok-shown_labels+in_ok-push w ↦
          let labels : pairs_view w.in_ok-shown_labels.field-0.items ≡ o.1 =
          w.in_ok-shown_labels.ensures
          ∙ ap (λ fixed. shown_labels fixed n.labels c.get.result.1.now)
          (ap pairs_view w.as_slice.ensures.value ∙ c.in_ok-fixed.ensures.labels) in
          kept_with (is_change old new) (rule_change r) start c.loop-i.changes.items _ (take i os) o true
          (sym c.is_change.ensures.change ∙ w.if-is_change.true) c.loop-i.invariant
          (ap (λ changes. changes.items) w.changes-is ∙ w.in_ok-push.ensures.items
          ∙ (λ j. c.loop-i.changes.items ++ (record {
            group = Some (w.group.ensures.group j);
            lists = o.0;
            labels = labels j;
          }) ∷ []))
          ∙ ap (λ os. start ++ map (rule_change r) (changes_of old new os)) (one_longer os i o at)
      | else-is_change w ↦
          kept_with (is_change old new) (rule_change r) start c.loop-i.changes.items _ (take i os) o false
          (sym c.is_change.ensures.change ∙ w.if-is_change.false) c.loop-i.invariant
          (ap (λ changes. changes.items) w.changes-is ∙ sym (append-nil _))
          ∙ ap (λ os. start ++ map (rule_change r) (changes_of old new os)) (one_longer os i o at)
    ]
