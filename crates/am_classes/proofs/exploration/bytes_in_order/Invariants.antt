use Rattle.std.proofs.Common.{◌≡◌, ℕ, ◌<◌, true}
use Rattle.am_scan.specs.Sight.{is_scanned}
use Rattle.am_classes.specs.Exploration.{HasByte, byte_at}
use Rattle.am_classes.proofs.exploration.bytes_in_order.Given as goal

-- The bytes at the places so far are there, if they are of the set.
abbrev pub invariant-loop-place : goal.invariant-loop-place
invariant-loop-place l =
    (place : ℕ) → place < l.place → is_scanned l.bytes (byte_at place) ≡ true
    → HasByte l.order.items (byte_at place)
