use Rattle.std.proofs.Common.{◌≡◌, ◌||◌, ◌∙◌, Some, sym, ap, arith}
use Rattle.std.specs.List.{list_any}
use Rattle.std.specs.Prelude.{option_map, slice_get}
use Rattle.std.proofs.Math.Bool.{or-false}
use Rattle.am_firing.specs.Reach.{leads_to, paths_of}
use Rattle.am_rule_outcomes.specs.NarrowingView.{narrowed_view, rule_outcomes_view}
use Rattle.am_reports.specs.RulesReach.{enters_by, lists_of}
use Rattle.am_reports.proofs.RulesWalked.{rule_at, so_far_at, view_long}
use Rattle.am_reports.proofs.rules_reach.ends_in.Goals as goal
use Rattle.am_reports.proofs.rules_reach.ends_in.Goals.{in-Some+in_ok-add_outcomes, in_default}

pub loop-i-preserved : goal.loop-i-preserved
loop-i-preserved c = λ path.
    let view = rule_outcomes_view c.args.found.now in
    let i = c.loop-i.i in
    let n = option_map narrowed_view c.of_rule.result in
    let at : slice_get view i ≡ Some n =
    rule_at view i n (omega (arith, c.loop-i-test.true, c.len-i-end.ensures, view_long c.args.found.now))
    c.of_rule.ensures.outcomes in
    let before = leads_to (paths_of c.loop-i.ends) path in
    let test = enters_by path in
    let put : leads_to (paths_of c.match-of_rule.ends) path ≡ (before || list_any test (lists_of n)) =
    elim c.match-of_rule.branch [
      | in-Some+in_ok-add_outcomes w ↦
          ap (λ ends. leads_to (paths_of ends) path) w.ends-is ∙ w.in_ok-add_outcomes.ensures path
          ∙ ap (λ m. before || list_any test (lists_of m)) (sym (ap (option_map narrowed_view) w.in-Some.is))
      | in_default w ↦
          ap (λ ends. leads_to (paths_of ends) path) w.ends-is ∙ sym (or-false before)
          ∙ ap (λ m. before || list_any test (lists_of m)) (sym (ap (option_map narrowed_view) w.in_default.is))
    ] in
    put ∙ ap (λ b. b || list_any test (lists_of n)) (c.loop-i.invariant path)
    ∙ sym (so_far_at test view i n at)
