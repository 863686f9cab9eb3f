use Rattle.std.proofs.Common.{ℕ, ◌<◌, slice_index}
use Rattle.am_universe.specs.Universe.{sizes}
use Rattle.am_universe.proofs.universe.Universe.admits.Given as goal

-- the first positions are below the sizes of their labels
abbrev pub invariant-loop-i : goal.invariant-loop-i
invariant-loop-i l = (k : ℕ) → k < l.i → slice_index l.choice k < slice_index (sizes l.self) k
