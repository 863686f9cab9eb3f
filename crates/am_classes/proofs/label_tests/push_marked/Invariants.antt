use Rattle.std.proofs.Common.{◌≡◌, ◌++◌, take}
use Rattle.am_classes.specs.PatternPlaces.{is_marked}
use Rattle.am_classes.specs.Places.{places_where}
use Rattle.am_classes.proofs.label_tests.push_marked.Given as goal

abbrev pub invariant-loop-place : goal.invariant-loop-place
invariant-loop-place l =
    l.hits.items ≡ l.fn.hits.items ++ places_where (is_marked l.marks) (take l.place l.patterns)
