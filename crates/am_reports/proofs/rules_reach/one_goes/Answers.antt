use Rattle.std.proofs.Common.{◌≡◌, ◌||◌, ◌==◌, ◌∙◌, ◌+◌, true, false, drop, sym, ap}
use Rattle.std.specs.List.{list_any}
use Rattle.am_outcomes.specs.OutcomesView.{lists_view}
use Rattle.am_reports.specs.RulesReach.{goes_by}
use Rattle.am_reports.proofs.RulesWalked.{Outcome, goes_here, only_lists, outcome_left}
use Rattle.am_reports.proofs.rules_reach.one_goes.Goals as goal

pub returns-then-contains : goal.returns-then-contains
returns-then-contains c =
    let os = c.args.outcomes.now in
    let r = c.args.receiver in
    let i = c.loop-i.i in
    let o : Outcome = (lists_view c.get.result.0.now, c.get.result.1.now) in
    let here : goes_by r o.0 ≡ true =
    sym (goes_here r o.0) ∙ ap (list_any (λ other. other == r)) (sym c.list_at.ensures.list)
    ∙ sym c.contains.ensures.value ∙ c.if-contains.true in
    sym (sym c.loop-i.invariant ∙ outcome_left (goes_by r) os i o c.get.ensures.outcome
    ∙ ap (λ b. b || list_any (goes_by r) (only_lists (drop (i + 1) os))) here)

pub loop-i-preserved : goal.loop-i-preserved
loop-i-preserved c =
    let os = c.args.outcomes.now in
    let r = c.args.receiver in
    let i = c.loop-i.i in
    let o : Outcome = (lists_view c.get.result.0.now, c.get.result.1.now) in
    let here : goes_by r o.0 ≡ false =
    sym (goes_here r o.0) ∙ ap (list_any (λ other. other == r)) (sym c.list_at.ensures.list)
    ∙ sym c.contains.ensures.value ∙ c.if-contains.false in
    sym (outcome_left (goes_by r) os i o c.get.ensures.outcome
    ∙ ap (λ b. b || list_any (goes_by r) (only_lists (drop (i + 1) os))) here) ∙ c.loop-i.invariant
