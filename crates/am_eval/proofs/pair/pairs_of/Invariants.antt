use Rattle.std.proofs.Common.{◌≡◌, ◌≤◌, ◌++◌, length, drop}
use Rattle.std.specs.List.{flat_map, enumerate_from}
use Rattle.am_eval.specs.declared.limits.TheConstants.{MAX_PAIRS}
use Rattle.am_eval.specs.Pairs.{pairs_of, pairs_of_rule}
use Rattle.am_eval.proofs.pair.pairs_of.Given as goal

-- what was found, and the pairs of the rules that are left, are all pairs
abbrev pub invariant-loop-i : goal.invariant-loop-i
invariant-loop-i l = record {
  together : l.found.items
      ++ flat_map (pairs_of_rule l.alerts) (enumerate_from l.i (drop l.i l.rules))
      ≡ pairs_of l.rules l.alerts;
  few : length l.found.items ≤ MAX_PAIRS;
}
