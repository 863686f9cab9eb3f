-- The bytes so far are in the set.
use Rattle.std.proofs.Common.{◌≡◌, ℕ, ◌<◌, true}
use Rattle.am_scan.specs.Sight.{is_scanned}
use Rattle.am_scan.proofs.character_sets.ascii_bytes.Given as goal

abbrev pub invariant-loop-byte : goal.invariant-loop-byte
invariant-loop-byte l = (b : ℕ) → b < l.byte → is_scanned l.bytes b ≡ true
