use Rattle.std.proofs.Common.{ℕ, ◌<◌, IsTrue, slice_index}
use Rattle.am_judged_lists.specs.Boxes.{box_permits}
use Rattle.am_judged_lists.proofs.position_box.PositionBox.has.Given as goal

-- the positions so far are permitted
abbrev pub invariant-loop-label : goal.invariant-loop-label
invariant-loop-label l =
    (i : ℕ) → i < l.label → IsTrue (box_permits l.self i (slice_index l.choice i))
