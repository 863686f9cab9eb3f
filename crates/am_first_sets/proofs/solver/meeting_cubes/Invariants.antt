use Rattle.std.proofs.Common.{◌≡◌, ℕ, List, take}
use Rattle.am_judged_lists.specs.Boxes.{IsInBox}
use Rattle.am_first_sets.specs.Solving.{avoids}
use Rattle.am_first_sets.proofs.solver.meeting_cubes.Given as goal

-- the choices of the box that avoid the cubes so far are the same
abbrev pub invariant-loop-cube : goal.invariant-loop-cube
invariant-loop-cube l =
    (c : List ℕ) → IsInBox l.start c
    → avoids l.cubes.items c ≡ avoids (take l.cube-index l.unwanted) c
