use Rattle.std.proofs.Common.{◌≡◌, ℕ, ◌/◌, ◌&&◌, nat_lt}
use Rattle.am_judged_lists.specs.declared.list_set.TheConstants.{ROOM}
use Rattle.am_judged_lists.specs.Certainty.{passes}
use Rattle.am_judged_lists.specs.Cube.{verdict_at}
use Rattle.am_judged_lists.specs.CubeSetView.{contains}
use Rattle.am_judged_lists.specs.Places.{is_at}
use Rattle.am_judged_lists.proofs.table.Table.passing.Given as goal

-- the set has the cubes of the blocks so far that pass
abbrev pub invariant-loop-i : goal.invariant-loop-i
invariant-loop-i l =
    (k : ℕ) → contains l.set k
    ≡ (nat_lt (k / ROOM) l.i && is_at (λ cube. passes l.certainty (verdict_at cube l.prefix)) l.self k)
