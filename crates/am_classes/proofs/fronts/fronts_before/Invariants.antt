use Rattle.std.proofs.Common.{◌≡◌, map, take}
use Rattle.am_classes.specs.Fronts.{fronts_before}
use Rattle.am_classes.proofs.fronts.fronts_before.Given as goal

abbrev pub invariant-loop-front : goal.invariant-loop-front
invariant-loop-front l =
    map (λ f. f.now) l.found.items
    ≡ fronts_before l.byte (map (λ f. f.now) (take l.front-index l.fronts))
