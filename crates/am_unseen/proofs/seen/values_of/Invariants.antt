use Rattle.std.proofs.Common.{◌≡◌, ◌++◌, take}
use Rattle.am_unseen.specs.Unseen.{seen_values}
use Rattle.am_unseen.specs.Search.{texts_of}
use Rattle.am_unseen.proofs.seen.values_of.Given as goal

-- the values of the alerts, and those of the rules so far
abbrev pub invariant-loop-set : goal.invariant-loop-set
invariant-loop-set l =
    texts_of l.values ≡ seen_values (l.alerts ++ take l.set-index l.rules) l.name
