use Rattle.std.proofs.Common.{◌≡◌, ◌||◌, ℕ, List, take}
use Rattle.am_firing.specs.Reach.{leads_to, paths_of}
use Rattle.am_outcomes.specs.OutcomesView.{lists_view}
use Rattle.am_reports.proofs.rules_reach.add_ends.Given as goal

-- what the paths so far add
abbrev pub invariant-loop-path : goal.invariant-loop-path
invariant-loop-path l =
    (path : List ℕ) → leads_to (paths_of l.ends) path
    ≡ (leads_to (paths_of l.initial.ends) path
    || leads_to (lists_view (take l.path-index l.paths)) path)
