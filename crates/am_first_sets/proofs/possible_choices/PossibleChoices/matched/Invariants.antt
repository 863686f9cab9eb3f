use Rattle.std.proofs.Common.{◌↔◌, ℕ, List, take}
use Rattle.std.specs.Prelude.{IsTrue}
use Rattle.am_judged_lists.specs.Boxes.{IsInBox}
use Rattle.am_first_sets.specs.Meeting.{all_match}
use Rattle.am_first_sets.proofs.possible_choices.PossibleChoices.matched.Given as goal

-- the box has the choices that the cubes so far match
abbrev pub invariant-loop-cube : goal.invariant-loop-cube
invariant-loop-cube l =
    (c : List ℕ) → IsInBox l.positions c
    ↔ IsInBox l.self.all c × IsTrue (all_match (take l.cube-index l.wanted) c)
