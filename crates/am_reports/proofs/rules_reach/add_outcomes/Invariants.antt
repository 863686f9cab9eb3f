use Rattle.std.proofs.Common.{◌≡◌, ◌||◌, ℕ, List, map, take}
use Rattle.std.specs.List.{list_any}
use Rattle.am_firing.specs.Reach.{leads_to, paths_of}
use Rattle.am_reports.specs.RulesReach.{enters_by}
use Rattle.am_reports.proofs.rules_reach.add_outcomes.Given as goal

-- what the outcomes so far add
abbrev pub invariant-loop-i : goal.invariant-loop-i
invariant-loop-i l =
    (path : List ℕ) → leads_to (paths_of l.ends) path
    ≡ (leads_to (paths_of l.initial.ends) path
    || list_any (enters_by path) (map (λ outcome. outcome.0) (take l.i l.outcomes)))
