use Rattle.std.proofs.Common.{ℕ, ◌<◌, slice_index}
use Rattle.std.specs.Prelude.{IsTrue}
use Rattle.am_judged_lists.specs.Boxes.{box_permits}
use Rattle.am_outcomes.proofs.box_firsts.is_in.Given as goal

-- the positions so far are permitted
abbrev pub invariant-loop-label : goal.invariant-loop-label
invariant-loop-label l =
    (i : ℕ) → i < l.label → IsTrue (box_permits l.positions i (slice_index l.choice i))
