use Rattle.std.proofs.Common.{ℕ, ◌<◌}
use Rattle.std.specs.Prelude.{IsTrue}
use Rattle.am_judged_lists.specs.Boxes.{box_permits}
use Rattle.am_outcomes.proofs.box_firsts.is_within_at.Given as goal

-- so it is at the positions so far
abbrev pub invariant-loop-position : goal.invariant-loop-position
invariant-loop-position l =
    (p : ℕ) → p < l.position → IsTrue (box_permits l.inner l.label p)
    → IsTrue (box_permits l.outer l.label p)
