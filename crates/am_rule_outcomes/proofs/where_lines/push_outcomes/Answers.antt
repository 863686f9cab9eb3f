use Rattle.std.proofs.Common.{◌≡◌, ℕ, List, ◌∷◌, ◌++◌, [], map, take, Some, true, false, option_map, option_copied}
use Rattle.std.proofs.Common.{append-nil, refl, sym, ap, ◌∙◌}
use Rattle.std.specs.Prelude.{slice_get}
use Rattle.std.specs.List.{filter}
use Rattle.std.proofs.lemmas.List.{map-append}
use Rattle.std.proofs.lemmas.Option.{slice_get-map}
use Rattle.am_universe.specs.Universe.{sizes}
use Rattle.am_universe.specs.Choice.{IsWhole}
use Rattle.am_universe.proofs.LabelPairLemmas.{at_place}
use Rattle.am_complete.proofs.LabelStates.{stands_at}
use Rattle.am_config.specs.ConfigView.{config_view}
use Rattle.am_report_texts.specs.LineView.{line_view}
use Rattle.am_alerting_rules.specs.RuleAlerts.{fixed_labels}
use Rattle.am_alerting_rules.specs.RuleView.{pairs_view}
use Rattle.am_rule_outcomes.specs.NarrowingView.{receiver_outcome_view}
use Rattle.am_rule_outcomes.specs.ReceiverOutcomes.{ReceiverOutcome, with_shown}
use Rattle.am_rule_outcomes.specs.RuleOutcomes.{RuleOutcome}
use Rattle.am_rule_outcomes.specs.ShownLabels.{shown_labels}
use Rattle.am_rule_outcomes.specs.WhereLines.{is_asked, where_line}
use Rattle.am_rule_outcomes.proofs.RulesFound.{kept_with, shown_more}
use Rattle.am_rule_outcomes.proofs.where_lines.push_outcomes.Goals as goal
use Rattle.am_rule_outcomes.proofs.where_lines.push_outcomes.Goals.{After-is_asked}
use Rattle.am_rule_outcomes.proofs.where_lines.push_outcomes.Goals.{then-is_asked+in_ok-labels+in_ok-where_line+in_ok-push}
use Rattle.am_rule_outcomes.proofs.where_lines.push_outcomes.Goals.{else-is_asked}

-- the outcome at the position
there : (c : After-is_asked) → slice_get c.args.narrowed.now.outcomes.items c.loop-outcome.outcome-index
    ≡ Some c.outcome-item.result
there c =
    ap (λ items. slice_get items c.loop-outcome.outcome-index) (sym c.deref-outcome-items.ensures.value)
    ∙ stands_at c.deref-outcome-items.result.now c.loop-outcome.outcome-index c.outcome-item.result
    c.loop-outcome-test.true c.outcome-item.is

pub shown_labels-requires : goal.shown_labels-requires
shown_labels-requires c =
    let items = c.args.narrowed.now.outcomes.items in
    at_place (λ (o : ReceiverOutcome (List ℕ)). IsWhole (sizes c.args.narrowed.now.universe.now) o.first)
    (map receiver_outcome_view items) c.loop-outcome.outcome-index
    (receiver_outcome_view c.outcome-item.result) c.requires
    (slice_get-map receiver_outcome_view items c.loop-outcome.outcome-index
    ∙ ap (option_map receiver_outcome_view) (there (goal.at.shown_labels-requires c).After-is_asked))

pub loop-outcome-preserved : goal.loop-outcome-preserved
loop-outcome-preserved c =
    let config = config_view c.args.config.now in
    let asked = option_copied c.args.asked in
    let r = c.args.rule.now in
    let u = c.args.narrowed.now.universe.now in
    let items = c.args.narrowed.now.outcomes.items in
    let i = c.loop-outcome.outcome-index in
    let item = c.outcome-item.result in
    let start = map line_view c.args.lines.now.items in
    let shown_as : ReceiverOutcome (List ℕ) → RuleOutcome = with_shown (shown_labels (fixed_labels r) u) in
    let os = map shown_as (map receiver_outcome_view (take i items)) in
    let o : RuleOutcome = shown_as (receiver_outcome_view item) in
    let tested : is_asked asked o ≡ c.is_asked.result = sym (c.is_asked.ensures o refl) in
    elim c.if-is_asked.branch [
      | then-is_asked+in_ok-labels+in_ok-where_line+in_ok-push w ↦
          let labels : pairs_view w.in_ok-labels.labels.items ≡ shown_labels (fixed_labels r) u item.first.now =
          w.in_ok-labels.ensures
          ∙ ap (λ fixed. shown_labels fixed u item.first.now)
          (ap pairs_view w.as_slice.ensures.value ∙ c.in_ok-fixed.ensures.labels) in
          kept_with (is_asked asked) (where_line config r) start (map line_view c.loop-outcome.lines.items) _ os o true
          (tested ∙ w.if-is_asked.true) c.loop-outcome.invariant
          (ap (λ lines. map line_view lines.items) w.lines-is
          ∙ ap (map line_view) w.in_ok-push.ensures.items
          ∙ map-append line_view c.loop-outcome.lines.items _
          ∙ ap (λ line. map line_view c.loop-outcome.lines.items ++ line ∷ [])
          (w.in_ok-where_line.ensures
          ∙ ap (λ labels. where_line config r (record {
            receivers = item.receivers.now;
            first = labels;
            silenced = item.silenced;
          })) labels))
          ∙ ap (λ os. start ++ map (where_line config r) (filter (is_asked asked) os))
          (sym (shown_more shown_as receiver_outcome_view items i item
          (there (goal.at.loop-outcome-preserved c).After-is_asked)))
      | else-is_asked w ↦
          kept_with (is_asked asked) (where_line config r) start (map line_view c.loop-outcome.lines.items) _ os o false
          (tested ∙ w.if-is_asked.false) c.loop-outcome.invariant
          (ap (λ lines. map line_view lines.items) w.lines-is ∙ sym (append-nil _))
          ∙ ap (λ os. start ++ map (where_line config r) (filter (is_asked asked) os))
          (sym (shown_more shown_as receiver_outcome_view items i item
          (there (goal.at.loop-outcome-preserved c).After-is_asked)))
    ]
