use Rattle.std.proofs.Common.{◌≡◌, ◌++◌, take}
use Rattle.am_unseen.specs.UnseenNames.{seen_names}
use Rattle.am_unseen.specs.Search.{texts_of}
use Rattle.am_unseen.proofs.seen.names_of.Given as goal

-- the names of the alerts, and those of the rules so far
abbrev pub invariant-loop-set : goal.invariant-loop-set
invariant-loop-set l = texts_of l.names ≡ seen_names (l.alerts ++ take l.set-index l.rules)
