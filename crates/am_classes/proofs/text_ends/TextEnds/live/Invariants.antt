use Rattle.std.proofs.Common.{◌≡◌, drop}
use Rattle.am_classes.specs.Live.{live_of}
use Rattle.am_classes.proofs.text_ends.TextEnds.live.Given as goal

abbrev pub invariant-loop-i : goal.invariant-loop-i
invariant-loop-i l =
    l.live.items ≡ live_of l.self.automata.now (drop l.i l.text)
