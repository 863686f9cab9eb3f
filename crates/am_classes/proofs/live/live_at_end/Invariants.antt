use Rattle.std.proofs.Common.{◌≡◌, [], take}
use Rattle.am_classes.specs.Live.{live_of}
use Rattle.am_classes.proofs.live.live_at_end.Given as goal

abbrev pub invariant-loop-place : goal.invariant-loop-place
invariant-loop-place l = l.live.items ≡ live_of (take l.place l.automata) []
