use Rattle.std.proofs.Common.{◌≡◌, ℕ, ◌∷◌, List, take}
use Rattle.std.specs.List.{flat_map}
use Rattle.am_classes.specs.Live.{live_of}
use Rattle.am_classes.proofs.LiveLemmas.{led}
use Rattle.am_classes.proofs.live.live_before.Given as goal

abbrev pub invariant-loop-pattern : goal.invariant-loop-pattern
invariant-loop-pattern l =
    (text : List ℕ) → l.live ≡ live_of l.automata text
    → l.nexts.items ≡ flat_map (led l.automata (l.byte ∷ text)) (take l.pattern-index l.live)
