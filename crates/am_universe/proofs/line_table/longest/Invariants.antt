use Rattle.std.proofs.Common.{◌≤◌, take, vec_len}
use Rattle.std.specs.List.{AllByRecursion}
use Rattle.am_universe.proofs.line_table.longest.Given as goal

abbrev pub invariant-loop-piece : goal.invariant-loop-piece
invariant-loop-piece l = AllByRecursion (λ piece. vec_len piece ≤ l.most) (take l.piece-index l.pieces)
