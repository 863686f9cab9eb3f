-- What holds over the universe that is made holds over every alert.
use Rattle.std.proofs.Common.{◌≡◌, subst, List, [], ◌∷◌, Option, Some, None}
use Rattle.std.specs.Prelude.{IfSome}
use Rattle.am_labels.specs.Matcher.{Matcher}
use Rattle.am_labels.specs.Space.{Space}
use Rattle.am_every_alert.specs.Deciding.{space_of}
use Rattle.am_idle.specs.declared.rules.IdleReason.{IdleReason}
use Rattle.am_idle.specs.Lists.{StandsForLists}
use Rattle.am_idle.specs.RuleChoices.{AreMeeting, IsFoundOf}
use Rattle.am_idle.specs.RuleLines.{HasPositionsIn}
use Rattle.am_idle.specs.Rules.{IsIdleReason, MayMeet}
use Rattle.am_idle.proofs.FoundSets.{if_found}
use Rattle.am_idle.proofs.RuleAlerts.{found_over, reason_positions}
use Rattle.am_idle.proofs.rules.idle_reason.Goals as goal
use Rattle.am_idle.proofs.rules.idle_reason.Goals.{In_ok-found_or_used_up}

over_alerts : (c : In_ok-found_or_used_up) (reason : Option IdleReason)
    → IsFoundOf (AreMeeting c.declare.new.self c.args.rule.now.equal) c.args.rule.now reason
    → IsIdleReason c.args.alphabet c.args.space.now c.args.rule.now reason
over_alerts c reason found =
    let a = c.args.alphabet in
    let s = c.args.space.now in
    let u = c.in_ok-universe.universe in
    let rule = c.args.rule.now in
    let declared : c.declare.new.self ≡ space_of s.impossible u =
    λ i. record {
      labels = c.declare.ensures.labels i;
      impossible = c.declare.ensures.impossible i;
    } in
    let stands = subst
    (λ (ms : List Matcher). StandsForLists a s (ms ∷ rule.target ∷ []) u) c.source.ensures.source
    (subst (λ (ms : List Matcher). StandsForLists a s (c.source.result.now ∷ ms ∷ []) u)
    c.target.ensures.target c.in_ok-universe.ensures.stands) in
    found_over rule a s u stands reason
    (subst (λ (t : Space). IsFoundOf (AreMeeting t rule.equal) rule reason) declared found)

pub returns-clause-reason : goal.returns-clause-reason
returns-clause-reason c =
    if_found _ _ (over_alerts (goal.at.returns-clause-reason c).In_ok-found_or_used_up)
    c.reason_in-reason.result c.in_ok-found_or_used_up.field-0 c.in_ok-found_or_used_up.ensures
    c.reason_in-reason.ensures

pub returns-clause-positions : goal.returns-clause-positions
returns-clause-positions c =
    let at = (goal.at.returns-clause-positions c).In_ok-found_or_used_up in
    if_found _ _ (λ reason found. by reason (over_alerts at reason found))
    c.reason_in-reason.result c.in_ok-found_or_used_up.field-0 c.in_ok-found_or_used_up.ensures
    c.reason_in-reason.ensures
  where
    by : (found : Option IdleReason)
        → IsIdleReason c.args.alphabet c.args.space.now c.args.rule.now found
        → IfSome found (HasPositionsIn c.args.rule.now)
    by None is = tt
    by (Some reason) is =
        reason_positions (MayMeet c.args.alphabet c.args.space.now c.args.rule.now) c.args.rule.now
        reason is.1
