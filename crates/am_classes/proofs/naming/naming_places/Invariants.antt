use Rattle.std.proofs.Common.{◌≡◌, ℕ, List, map, take}
use Rattle.am_classes.specs.LabelTests.{named_places}
use Rattle.am_classes.specs.Truths.{naming}
use Rattle.am_classes.proofs.naming.naming_places.Given as goal

abbrev pub invariant-loop-place : goal.invariant-loop-place
invariant-loop-place l = (text : List ℕ)
    → named_places l.named text ≡ naming (map (λ m. m.now) (take l.place l.matchers)) text
