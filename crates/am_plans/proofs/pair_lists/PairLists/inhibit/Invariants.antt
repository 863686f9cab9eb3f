use Rattle.std.proofs.Common.{◌-◌, length}
use Rattle.am_judged_lists.specs.Certainty.{passes}
use Rattle.am_judged_lists.specs.Cube.{verdict_at}
use Rattle.am_plans.specs.PairsByLists.{side_fails}
use Rattle.am_plans.proofs.PairSteps.{NoPairBefore}
use Rattle.am_plans.proofs.pair_lists.PairLists.inhibit.Given as goal

-- no pair so far inhibits
abbrev pub invariant-loop-i : goal.invariant-loop-i
invariant-loop-i l =
    NoPairBefore (λ cube. passes l.certainty (verdict_at cube l.prefix))
    (side_fails l.prefix l.certainty l.self.sources.items) l.self.lists l.self.sides.items l.from

abbrev pub decreases-loop-i : goal.decreases-loop-i
decreases-loop-i l = length l.self.sides.items - l.from
