use Rattle.std.proofs.Common.{◌≡◌, ◌&&◌, ℕ, nat_lt}
use Rattle.am_scan.specs.Sight.{is_scanned}
use Rattle.am_classes.proofs.enough_bytes.printable_bytes.Given as goal

abbrev pub invariant-loop-byte : goal.invariant-loop-byte
invariant-loop-byte l = (b : ℕ) → is_scanned l.bytes b ≡ (nat_lt 31 b && nat_lt b l.byte)
