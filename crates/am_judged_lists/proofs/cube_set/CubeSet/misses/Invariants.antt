use Rattle.std.proofs.Common.{◌≡◌, ℕ, ◌/◌, ◌<◌, true, not}
use Rattle.am_judged_lists.specs.declared.list_set.TheConstants.{ROOM}
use Rattle.am_judged_lists.specs.CubeSetView.{contains}
use Rattle.am_judged_lists.proofs.cube_set.CubeSet.misses.Given as goal

abbrev pub invariant-loop-i : goal.invariant-loop-i
invariant-loop-i l =
    (k : ℕ) → k / ROOM < l.i → contains l.self k ≡ true → not (contains l.other k) ≡ true
