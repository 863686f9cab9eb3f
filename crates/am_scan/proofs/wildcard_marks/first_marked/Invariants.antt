-- The marked places from some position on.
use Rattle.std.proofs.Common.{◌≡◌, [], drop}
use Rattle.am_scan.specs.WildcardPlaces.{marks, positions}
use Rattle.am_scan.proofs.wildcard_marks.first_marked.Given as goal

abbrev pub invariant-loop-at : goal.invariant-loop-at
invariant-loop-at l = l.first.items ≡ positions l.at (marks (drop l.at l.places) [])
