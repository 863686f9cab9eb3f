use Rattle.std.proofs.Common.{◌≡◌, ◌++◌, map, drop, count_by}
use Rattle.am_eval.specs.Inhibition.{inhibits}
use Rattle.am_firing.specs.Wide.{inhibited_counts}
use Rattle.am_firing.proofs.wide.inhibited_counts.Given as goal

-- the numbers so far, and those for the alerts that are left, are all numbers
abbrev pub invariant-loop-i : goal.invariant-loop-i
invariant-loop-i l =
    l.counts.items ++ map (λ alert. count_by (inhibits l.rule alert) l.alerts) (drop l.i l.alerts)
    ≡ inhibited_counts l.rule l.alerts
