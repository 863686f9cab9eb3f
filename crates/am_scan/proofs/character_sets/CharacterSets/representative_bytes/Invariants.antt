-- The bytes of ASCII are there, and those of the characters so far.
use Rattle.std.proofs.Common.{◌≡◌, ℕ, ◌<◌, true, take, encode_utf8}
use Rattle.std.specs.List.{AllByRecursion}
use Rattle.am_scan.specs.Characters.{HasFirst}
use Rattle.am_scan.specs.Sight.{IsScanned, is_scanned}
use Rattle.am_scan.proofs.character_sets.CharacterSets.representative_bytes.Given as goal

abbrev pub invariant-loop-single : goal.invariant-loop-single
invariant-loop-single l = record {
  ascii : (b : ℕ) → b < 128 → is_scanned l.bytes b ≡ true;
  singles : AllByRecursion (λ c. IsScanned l.bytes (encode_utf8 c)) (take l.single-index l.self.singles.items);
}

abbrev pub invariant-loop-part : goal.invariant-loop-part
invariant-loop-part l = record {
  ascii : (b : ℕ) → b < 128 → is_scanned l.bytes b ≡ true;
  singles : AllByRecursion (λ c. IsScanned l.bytes (encode_utf8 c)) l.self.singles.items;
  parts : AllByRecursion (λ part. HasFirst part.ranges.items l.bytes) (take l.part-index l.part-items);
}
