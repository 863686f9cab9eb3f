use Rattle.std.proofs.Common.{◌≡◌, ℕ, ◌<◌, false}
use Rattle.am_judged_lists.specs.Boxes.{box_permits}
use Rattle.am_outcomes.proofs.box_firsts.least_of.Given as goal

-- no position so far is permitted
abbrev pub invariant-loop-position : goal.invariant-loop-position
invariant-loop-position l =
    (p : ℕ) → p < l.position → box_permits l.positions l.label p ≡ false
