use Rattle.std.proofs.Common.{◌≡◌, ℕ, List, take}
use Rattle.std.specs.List.{list_any}
use Rattle.am_firing.specs.Reach.{leads_to, paths_of}
use Rattle.am_rule_outcomes.specs.NarrowingView.{rule_outcomes_view}
use Rattle.am_reports.specs.RulesReach.{enters_by, lists_found}
use Rattle.am_reports.proofs.rules_reach.ends_in.Given as goal

-- the ends of the rules so far
abbrev pub invariant-loop-i : goal.invariant-loop-i
invariant-loop-i l =
    (path : List ℕ) → leads_to (paths_of l.ends) path
    ≡ list_any (enters_by path) (lists_found (take l.i (rule_outcomes_view l.found)))
