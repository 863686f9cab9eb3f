use Rattle.std.proofs.Common.{◌≡◌, ◌≤◌, ◌++◌, length, map, drop}
use Rattle.std.specs.List.{filter, enumerate_from}
use Rattle.am_eval.specs.declared.limits.TheConstants.{MAX_PAIRS}
use Rattle.am_eval.specs.Pairs.{pair_of, pairs_of_rule}
use Rattle.am_eval.proofs.PairLemmas.{fires}
use Rattle.am_eval.proofs.pair.add_pairs.Given as goal

-- what was found, and the pairs with the alerts that are left, are all pairs
abbrev pub invariant-loop-i : goal.invariant-loop-i
invariant-loop-i l = record {
  together : l.found.items ++ map (pair_of (l.position, l.rule))
      (filter (fires (l.position, l.rule)) (enumerate_from l.i (drop l.i l.alerts)))
      ≡ l.fn.found.items ++ pairs_of_rule l.alerts (l.position, l.rule);
  few : length l.found.items ≤ MAX_PAIRS;
  rule : l.sides.rule ≡ l.position;
  source : l.sides.source ≡ l.rule.source;
  target : l.sides.target ≡ l.rule.target;
}
