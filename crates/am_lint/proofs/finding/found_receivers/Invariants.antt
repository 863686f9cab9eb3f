use Rattle.std.proofs.Common.{◌≡◌, map}
use Rattle.std.specs.List.{range_with_len}
use Rattle.am_lint.specs.FoundView.{receiver_finding}
use Rattle.am_lint.proofs.finding.found_receivers.Given as goal

abbrev pub invariant-loop-i : goal.invariant-loop-i
invariant-loop-i l = l.found.items ≡ map (receiver_finding l.routes) (range_with_len 0 l.i)
