use Rattle.std.proofs.Common.{◌≡◌, drop, map}
use Rattle.std.specs.List.{list_any}
use Rattle.am_reports.specs.RulesReach.{goes_by}
use Rattle.am_reports.proofs.rules_reach.one_goes.Given as goal

-- the outcomes that are left decide
abbrev pub invariant-loop-i : goal.invariant-loop-i
invariant-loop-i l =
    list_any (goes_by l.receiver) (map (λ outcome. outcome.0) (drop l.i l.outcomes))
    ≡ list_any (goes_by l.receiver) (map (λ outcome. outcome.0) l.outcomes)
