-- No byte so far is in the set, from the first that is not of ASCII.
use Rattle.std.proofs.Common.{◌≡◌, ℕ, ◌≤◌, ◌<◌, false}
use Rattle.am_scan.specs.Sight.{is_scanned}
use Rattle.am_scan.proofs.byte_set.ByteSet.is_ascii.Given as goal

abbrev pub invariant-loop-byte : goal.invariant-loop-byte
invariant-loop-byte l = (b : ℕ) → 128 ≤ b → b < l.byte → is_scanned l.self b ≡ false
