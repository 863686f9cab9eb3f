use Rattle.std.proofs.Common.{◌≡◌, ℕ, List, take}
use Rattle.std.specs.List.{flat_map}
use Rattle.std.specs.Str.{IsUtf8}
use Rattle.am_classes.specs.Automata.{AreScanned}
use Rattle.am_classes.specs.Live.{live_of}
use Rattle.am_classes.proofs.LiveLemmas.{found_live}
use Rattle.am_classes.proofs.live.found_patterns.Given as goal

abbrev pub invariant-loop-pattern : goal.invariant-loop-pattern
invariant-loop-pattern l =
    (text : List ℕ) → l.live ≡ live_of l.automata text → AreScanned l.automata text → IsUtf8 text
    → l.found.items ≡ flat_map (found_live l.automata text) (take l.pattern-index l.live)
