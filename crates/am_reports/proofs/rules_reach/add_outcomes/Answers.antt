use Rattle.std.proofs.Common.{◌≡◌, ◌||◌, ℕ, List, ◌∙◌, take, sym, ap}
use Rattle.std.specs.Global.{Vec}
use Rattle.std.specs.List.{list_any}
use Rattle.std.proofs.Math.Bool.{or-false, or_assoc}
use Rattle.std.proofs.lemmas.List.{nil_from_length}
use Rattle.am_firing.specs.Reach.{leads_to, paths_of}
use Rattle.am_outcomes.specs.OutcomesView.{lists_view}
use Rattle.am_reports.specs.RulesReach.{enters_by}
use Rattle.am_reports.proofs.RulesWalked.{Outcome, only_lists, outcome_so_far}
use Rattle.am_reports.proofs.rules_reach.add_outcomes.Goals as goal
use Rattle.am_reports.proofs.rules_reach.add_outcomes.Goals.{in-Some+in_ok-add_ends, in_default}

pub loop-i-preserved : goal.loop-i-preserved
loop-i-preserved c = λ path.
    let os = c.args.outcomes.now in
    let i = c.loop-i.i in
    let lists = lists_view c.get.result.0.now in
    let o : Outcome = (lists, c.get.result.1.now) in
    let start = leads_to (paths_of c.args.ends.now) path in
    let so_far = list_any (enters_by path) (only_lists (take i os)) in
    let before = leads_to (paths_of c.loop-i.ends) path in
    let put : leads_to (paths_of c.match-split_first.ends) path ≡ (before || enters_by path lists) =
    elim c.match-split_first.branch [
      | in-Some+in_ok-add_ends w ↦
          ap (λ ends. leads_to (paths_of ends) path) w.ends-is ∙ w.in_ok-add_ends.ensures path
          ∙ ap (λ b. before || b) (sym (ap (λ (ls : List (Vec ℕ)). enters_by path (lists_view ls))
          w.in-Some.ensures.cases.0))
      | in_default w ↦
          ap (λ ends. leads_to (paths_of ends) path) w.ends-is ∙ sym (or-false before)
          ∙ ap (λ b. before || b) (sym (ap (λ (ls : List (Vec ℕ)). enters_by path (lists_view ls))
          (nil_from_length c.get.result.0.now w.in_default.ensures.cases)))
    ] in
    put ∙ ap (λ b. b || enters_by path lists) (c.loop-i.invariant path)
    ∙ or_assoc start so_far (enters_by path lists)
    ∙ ap (λ b. start || b) (sym (outcome_so_far (enters_by path) os i o c.get.ensures.outcome))
