use Rattle.std.proofs.Common.{◌≡◌, ℕ, ◌<◌, false}
use Rattle.am_judged_lists.specs.Boxes.{box_permits}
use Rattle.am_judged_lists.proofs.position_box.PositionBox.has_choice.Given as goal

-- the labels so far have some position
abbrev pub invariant-loop-mask : goal.invariant-loop-mask
invariant-loop-mask l =
    (i : ℕ) → i < l.mask-index → ((p : ℕ) → box_permits l.mask-items i p ≡ false) → ⊥
