use Rattle.std.proofs.Common.{map}
use Rattle.std.specs.List.{AllByRecursion}
use Rattle.am_complete.specs.Representatives.{IsUsual}
use Rattle.am_complete.proofs.usual_texts.counted_texts.Given as goal

-- some alert has each text so far
abbrev pub invariant-loop-i : goal.invariant-loop-i
invariant-loop-i l =
    AllByRecursion (IsUsual l.alerts l.name) (map (λ pair. pair.0.now) l.counted.items)
