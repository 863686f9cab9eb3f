-- The states so far do the same.
use Rattle.std.proofs.Common.{ℕ, ◌<◌}
use Rattle.am_scan.specs.Trimming.{DoesSame}
use Rattle.am_scan.proofs.trim_check.is_trimmed.Given as goal

abbrev pub invariant-loop-id : goal.invariant-loop-id
invariant-loop-id l = (k : ℕ) → k < l.id → DoesSame l.bytes l.trimmed l.nfa l.origins k
