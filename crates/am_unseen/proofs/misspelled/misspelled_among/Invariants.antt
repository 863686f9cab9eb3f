use Rattle.std.proofs.Common.{◌≡◌, map, take}
use Rattle.std.specs.List.{flat_map}
use Rattle.am_unseen.specs.Unseen.{misspelled, values_beside}
use Rattle.am_unseen.specs.Search.{texts_of}
use Rattle.am_unseen.proofs.misspelled.misspelled_among.Given as goal

-- those of the alternatives so far that may be misspelled
abbrev pub invariant-loop-text : goal.invariant-loop-text
invariant-loop-text l =
    (l.similar ≡ l.initial.similar)
    × (l.found.items
    ≡ flat_map
    (misspelled (texts_of l.values) (values_beside (texts_of l.but) (texts_of l.values))
    (l.origin, l.matcher)) (map (λ t. t.now) (take l.text-index l.texts)))
