use Rattle.std.proofs.Common.{◌≡◌, ℕ, ◌<◌, drop}
use Rattle.am_universe.specs.Shown.{hidden_len}
use Rattle.am_universe.proofs.hidden.plain_len.Given as goal

abbrev pub invariant-loop-place : goal.invariant-loop-place
invariant-loop-place l = (k : ℕ) → k < l.place → hidden_len (drop k l.bytes) ≡ 0
