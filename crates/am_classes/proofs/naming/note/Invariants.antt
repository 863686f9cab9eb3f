use Rattle.std.proofs.Common.{◌≡◌, ℕ, List, map, take}
use Rattle.am_classes.specs.LabelTests.{named_places, noted}
use Rattle.am_classes.proofs.naming.note.Given as goal

abbrev pub invariant-loop-text : goal.invariant-loop-text
invariant-loop-text l = (q : List ℕ) → named_places l.named q
    ≡ noted (map (λ t. t.now) (take l.text-index l.text-items)) l.place q
    (named_places l.initial.named q)
