use Rattle.std.proofs.Common.{◌≡◌, fold, map, drop}
use Rattle.am_report_texts.specs.EachOnce.{each_once, with_text}
use Rattle.am_alerts.specs.MutingRoutes.{intervals_at}
use Rattle.am_alerts.proofs.intervals.intervals_of.Given as goal

-- the names so far, and then those of the routes that are left, are all names
abbrev pub invariant-loop-one : goal.invariant-loop-one
invariant-loop-one l =
    fold with_text (map (λ n. n.now) l.names.items) (intervals_at (drop l.one-index l.muting) l.alert)
    ≡ each_once (intervals_at l.muting l.alert)
