use Rattle.std.proofs.Common.{◌≡◌, ◌<◌, ℕ, Some, IsFalse, Contains}
use Rattle.std.specs.Prelude.{slice_get}
use Rattle.am_first_sets.specs.declared.candidate.Candidate.{Candidate}
use Rattle.am_route_alerts.specs.Nearby.{is_free}
use Rattle.am_route_alerts.proofs.nearby.asking_about.Given as goal

-- those of the literals so far that ask about the label are listed
abbrev pub invariant-loop-i : goal.invariant-loop-i
invariant-loop-i l =
    (j : ℕ) (k : Candidate) → j < l.i → slice_get l.literals j ≡ Some k
    → IsFalse (is_free l.label k) → Contains l.found.items j
