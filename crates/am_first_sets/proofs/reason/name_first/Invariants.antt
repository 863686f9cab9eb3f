use Rattle.std.proofs.Common.{◌≡◌}
use Rattle.am_first_sets.specs.Reason.{named_first}
use Rattle.am_first_sets.proofs.reason.name_first.Given as goal

-- those so far are named
abbrev pub invariant-loop-i : goal.invariant-loop-i
invariant-loop-i l = l.candidates ≡ named_first l.i l.fn.candidates
