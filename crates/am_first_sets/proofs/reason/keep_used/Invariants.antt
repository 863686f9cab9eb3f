use Rattle.std.proofs.Common.{◌≡◌, ◌≤◌, ◌++◌, length, take, drop}
use Rattle.am_first_sets.specs.Reason.{kept}
use Rattle.am_first_sets.proofs.reason.keep_used.Given as goal

-- the literals so far are done
abbrev pub invariant-loop-i : goal.invariant-loop-i
invariant-loop-i l = record {
  few : l.next ≤ l.i;
  long : length l.candidates ≡ length l.fn.candidates;
  done : kept l.from l.used 0 0 l.fn.candidates
      ≡ take l.i l.candidates ++ kept l.from l.used l.i l.next (drop l.i l.candidates);
}
