use Rattle.std.proofs.Common.{◌≡◌, [], map, replicate}
use Rattle.am_alerts.proofs.alert_lists.empty_lists.Given as goal

abbrev pub invariant-loop : goal.invariant-loop
invariant-loop g l = map (λ v. v.items) l.lists.items ≡ replicate l.counter []
