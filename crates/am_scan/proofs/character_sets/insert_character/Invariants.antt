-- The bytes so far are in the set.
use Rattle.std.proofs.Common.{◌≡◌, true, take}
use Rattle.std.specs.List.{list_all}
use Rattle.am_scan.specs.Characters.{Widens}
use Rattle.am_scan.specs.Sight.{is_scanned}
use Rattle.am_scan.proofs.character_sets.insert_character.Given as goal

abbrev pub invariant-loop-byte : goal.invariant-loop-byte
invariant-loop-byte l = record {
  widens : Widens l.fn.bytes l.bytes;
  own : list_all (is_scanned l.bytes) (take l.byte-index l.byte-items) ≡ true;
}
