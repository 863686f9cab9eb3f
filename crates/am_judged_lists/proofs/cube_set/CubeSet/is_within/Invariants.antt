use Rattle.std.proofs.Common.{◌≡◌, ℕ, ◌/◌, ◌<◌, true}
use Rattle.am_judged_lists.specs.declared.list_set.TheConstants.{ROOM}
use Rattle.am_judged_lists.specs.CubeSetView.{contains}
use Rattle.am_judged_lists.proofs.cube_set.CubeSet.is_within.Given as goal

abbrev pub invariant-loop-i : goal.invariant-loop-i
invariant-loop-i l =
    (k : ℕ) → k / ROOM < l.i → contains l.self k ≡ true → contains l.other k ≡ true
