use Rattle.std.proofs.Common.{◌≡◌, ◌*◌, ◌&&◌, ℕ, List, length, take}
use Rattle.am_judged_lists.specs.declared.pairs.Side.TheVariants.{First, Second}
use Rattle.am_judged_lists.specs.Pairs.{seen}
use Rattle.am_first_sets.specs.Meeting.{is_possible_by}
use Rattle.am_first_sets.proofs.pairs.Pairs.of.Given as goal

-- a pair is possible by the cubes so far exactly if both sides are
abbrev pub invariant-loop-cube : goal.invariant-loop-cube
invariant-loop-cube l =
    (e : List ℕ) → length e ≡ 2 * l.labels
    → is_possible_by l.impossible.items e
    ≡ (is_possible_by (take l.cube-index l.cube-items) (seen First l.shared.items l.labels e)
    && is_possible_by (take l.cube-index l.cube-items) (seen Second l.shared.items l.labels e))
