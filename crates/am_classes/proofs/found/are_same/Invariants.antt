use Rattle.std.proofs.Common.{◌≡◌, map, string_bytes, take}
use Rattle.am_classes.proofs.found.are_same.Given as goal

abbrev pub invariant-loop-i : goal.invariant-loop-i
invariant-loop-i l = map string_bytes (take l.i l.texts) ≡ map string_bytes (take l.i l.others)
