use Rattle.std.proofs.Common.{◌≡◌, ◌==◌, ◌||◌, length, not, sym, ap, ◌∙◌, refl}
use mathlib.Core.Bool.{beq}
use Rattle.am_universe.specs.Text.{same_text}
use Rattle.am_outcomes.specs.OutcomesView.{lists_view}
use Rattle.am_rule_outcomes.specs.ReceiverOutcomes.{is_silenced_outcome}
use Rattle.am_rule_outcomes.proofs.ReceiverOutcomes.{Outcome, has_receivers}
use Rattle.am_rule_outcomes.proofs.ReceiverOutcomes.{put_more, where_put, where_same}
use Rattle.am_rule_outcomes.proofs.receiver_outcomes.receivers_where.Goals as goal
use Rattle.am_rule_outcomes.proofs.receiver_outcomes.receivers_where.Goals.{then-is_empty-are_silenced+in_ok-insert}
use Rattle.am_rule_outcomes.proofs.receiver_outcomes.receivers_where.Goals.{else-is_empty-are_silenced}

pub loop-i-preserved : goal.loop-i-preserved
loop-i-preserved c = λ rs.
    let os = c.args.outcomes.now in
    let o : Outcome = (lists_view c.get.result.0.now, c.get.result.1.now) in
    let before = c.loop-i.found.keys in
    let tested : beq (is_silenced_outcome o) c.args.are_silenced ≡ beq (not c.is_empty.result) c.args.are_silenced =
    ap (λ l. beq (not (length l == 0)) c.args.are_silenced) (sym c.list_at.ensures.list)
    ∙ ap (λ b. beq (not b) c.args.are_silenced) (sym c.is_empty.ensures) in
    elim c.if-is_empty-are_silenced.branch [
      | then-is_empty-are_silenced+in_ok-insert w ↦
          let r = w.list_at-then-is_empty-are_silenced in
          ap (λ found. has_receivers found.keys rs) w.found-is
          ∙ ap (λ ks. has_receivers ks rs) w.in_ok-insert.ensures.keys
          ∙ put_more _ (λ x y. refl) before r.result rs
          ∙ ap (λ rs'. has_receivers before rs || same_text rs rs') r.ensures.list
          ∙ where_put c.args.are_silenced os c.loop-i.i o rs _ c.get.ensures.outcome
          (tested ∙ w.if-is_empty-are_silenced.true) (c.loop-i.invariant rs)
      | else-is_empty-are_silenced w ↦
          ap (λ found. has_receivers found.keys rs) w.found-is
          ∙ where_same c.args.are_silenced os c.loop-i.i o rs _ c.get.ensures.outcome
          (tested ∙ w.if-is_empty-are_silenced.false) (c.loop-i.invariant rs)
    ]
