-- The cells stay in the stored form when the last position is removed.
use Rattle.std.proofs.Common.{◌≡◌, ◌+◌, ◌-◌, suc, arith}
use Rattle.std.proofs.lemmas.List.{drop-set}
use Rattle.std.proofs.Math.ListN.{length-set}
use Rattle.am_universe.specs.declared.limits.TheConstants.{MAX_POSITIONS}
use Rattle.am_universe.proofs.positions.Positions.pop.Goals as goal

pub invariant_of-self : goal.invariant_of-self
invariant_of-self c =
    let a = c.self.inside in
    let h = c.self.invariant in
    let next : a.len - 1 + 1 ≡ a.len = omega arith in
    let more : suc (MAX_POSITIONS - a.len) ≡ MAX_POSITIONS - (a.len - 1) = omega arith in
    record { cells = simp length-set h.cells; within = omega arith; zeros = grind (arith, drop-set) }
