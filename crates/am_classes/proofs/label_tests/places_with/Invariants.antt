-- The lists are empty at first, and then have the places so far.
use Rattle.std.proofs.Common.{◌≡◌, ℕ, [], take}
use Rattle.am_scan.specs.Arrivals.{items_at}
use Rattle.am_classes.specs.PatternPlaces.{ArePlacesWith}
use Rattle.am_classes.proofs.label_tests.places_with.Given as goal

abbrev pub invariant-loop : goal.invariant-loop
invariant-loop l = (k : ℕ) → items_at l.lists.items k ≡ []

abbrev pub invariant-loop-place : goal.invariant-loop-place
invariant-loop-place l = ArePlacesWith (take l.place l.patterns) l.lists.items
