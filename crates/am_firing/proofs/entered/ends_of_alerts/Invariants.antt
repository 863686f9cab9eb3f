use Rattle.std.proofs.Common.{◌≡◌, ◌||◌, ℕ, List, drop}
use Rattle.std.specs.List.{list_any}
use Rattle.am_firing.specs.Reach.{leads_to, paths_of}
use Rattle.am_firing.specs.Unreached.{enters, is_entered}
use Rattle.am_firing.proofs.entered.ends_of_alerts.Given as goal

-- a route is entered by the ends so far or by an alert that is left, exactly if it is entered
abbrev pub invariant-loop-i : goal.invariant-loop-i
invariant-loop-i l =
    (path : List ℕ) → (leads_to (paths_of l.found) path
    || list_any (enters l.world.config path) (drop l.i l.world.alerts)) ≡ is_entered l.world path
