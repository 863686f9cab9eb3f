-- The places of the pieces so far, with those of the rest, are all.
use Rattle.std.proofs.Common.{◌≡◌, ◌++◌, true, false, drop}
use Rattle.am_scan.specs.WildcardPlaces.{places_from}
use Rattle.am_scan.proofs.wildcard_place.push_places.Given as goal

abbrev pub invariant-loop-piece : goal.invariant-loop-piece
invariant-loop-piece l =
    l.places.items ++ places_from l.after_any l.first (drop l.piece-index l.pieces)
    ≡ l.fn.places.items ++ places_from false true l.pieces
