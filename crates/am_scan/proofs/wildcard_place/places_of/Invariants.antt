-- The places of the alternatives so far.
use Rattle.std.proofs.Common.{◌≡◌, true, false, map, take}
use Rattle.std.specs.List.{flat_map}
use Rattle.am_scan.specs.WildcardPlaces.{places_from}
use Rattle.am_scan.proofs.wildcard_place.places_of.Given as goal

abbrev pub invariant-loop-pieces : goal.invariant-loop-pieces
invariant-loop-pieces l =
    l.places.items ≡ flat_map (places_from false true) (map (λ a. a.items) (take l.pieces-index l.pieces-items))
