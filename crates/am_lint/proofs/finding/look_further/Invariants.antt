use Rattle.std.proofs.Common.{take}
use Rattle.std.specs.List.{AllByRecursion, AllZip}
use Rattle.am_config.specs.ConfigView.{config_view}
use Rattle.am_lint.specs.FoundView.{IsSameButEvery, IsLookedAt}
use Rattle.am_lint.proofs.finding.look_further.Given as goal

-- the routes so far are looked at, and all routes are otherwise the same
abbrev pub invariant-loop-i : goal.invariant-loop-i
invariant-loop-i l = record {
  same : AllZip IsSameButEvery l.fn.found l.found;
  looked : AllByRecursion
      (λ route. IsLookedAt l.space (config_view l.config) route.path route.ordinary route.every)
      (take l.i l.found);
}
