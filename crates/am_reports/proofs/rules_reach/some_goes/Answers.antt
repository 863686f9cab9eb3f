use Rattle.std.proofs.Common.{◌≡◌, ◌||◌, ◌∙◌, ◌+◌, Some, true, false, drop, sym, ap, arith}
use Rattle.std.specs.List.{list_any}
use Rattle.std.specs.Prelude.{option_map, slice_get}
use Rattle.am_rule_outcomes.specs.NarrowingView.{narrowed_view, rule_outcomes_view}
use Rattle.am_reports.specs.RulesReach.{lists_found, lists_of, goes_by}
use Rattle.am_reports.proofs.RulesWalked.{left_at, rule_at, view_long}
use Rattle.am_reports.proofs.rules_reach.some_goes.Goals as goal
use Rattle.am_reports.proofs.rules_reach.some_goes.Goals.{After-of_rule, in-Some+else-one_goes, in_default}

-- the outcomes of the rule
at_rule : (c : After-of_rule) → slice_get (rule_outcomes_view c.args.found.now) c.loop-i.i
    ≡ Some (option_map narrowed_view c.of_rule.result)
at_rule c =
    rule_at (rule_outcomes_view c.args.found.now) c.loop-i.i (option_map narrowed_view c.of_rule.result)
    (omega (arith, c.loop-i-test.true, c.len-i-end.ensures, view_long c.args.found.now))
    c.of_rule.ensures.outcomes

pub returns-then-one_goes : goal.returns-then-one_goes
returns-then-one_goes c =
    let view = rule_outcomes_view c.args.found.now in
    let i = c.loop-i.i in
    let test = goes_by c.args.receiver in
    let here : list_any test (lists_of (option_map narrowed_view c.of_rule.result)) ≡ true =
    ap (λ n. list_any test (lists_of n)) (ap (option_map narrowed_view) c.in-Some.is) ∙ sym c.one_goes.ensures ∙ c.if-one_goes.true in
    sym (sym c.loop-i.invariant
    ∙ left_at test view i (option_map narrowed_view c.of_rule.result)
    (at_rule (goal.at.returns-then-one_goes c).After-of_rule)
    ∙ ap (λ b. b || list_any test (lists_found (drop (i + 1) view))) here)

pub loop-i-preserved : goal.loop-i-preserved
loop-i-preserved c =
    let view = rule_outcomes_view c.args.found.now in
    let i = c.loop-i.i in
    let test = goes_by c.args.receiver in
    let none : list_any test (lists_of (option_map narrowed_view c.of_rule.result)) ≡ false =
    elim c.match-of_rule.branch [
      | in-Some+else-one_goes w ↦
          ap (λ n. list_any test (lists_of n)) (ap (option_map narrowed_view) w.in-Some.is) ∙ sym w.one_goes.ensures ∙ w.if-one_goes.false
      | in_default w ↦ ap (λ n. list_any test (lists_of n)) (ap (option_map narrowed_view) w.in_default.is)
    ] in
    sym (left_at test view i (option_map narrowed_view c.of_rule.result)
    (at_rule (goal.at.loop-i-preserved c).After-of_rule)
    ∙ ap (λ b. b || list_any test (lists_found (drop (i + 1) view))) none) ∙ c.loop-i.invariant
