-- The places that the marked ones so far add.
use Rattle.std.proofs.Common.{◌≡◌, [], fold, take}
use Rattle.am_scan.specs.WildcardPlaces.{push_next}
use Rattle.am_scan.proofs.wildcard_marks.next_marked.Given as goal

abbrev pub invariant-loop-at : goal.invariant-loop-at
invariant-loop-at l = l.next.items ≡ fold (push_next l.places l.byte) [] (take l.at-index l.marked)
