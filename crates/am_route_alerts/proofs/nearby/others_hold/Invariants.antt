use Rattle.std.proofs.Common.{◌≡◌, ◌<◌, ℕ, Some, IsTrue}
use Rattle.std.specs.Prelude.{slice_get, slice_index_or}
use Rattle.am_first_sets.specs.declared.candidate.Candidate.{Candidate}
use Rattle.am_first_sets.specs.Literals.{holds_at}
use Rattle.am_route_alerts.proofs.nearby.others_hold.Given as goal

-- the literals at the positions so far are true
abbrev pub invariant-loop-j : goal.invariant-loop-j
invariant-loop-j l =
    (n j : ℕ) (k : Candidate) → n < l.j-index → slice_index_or l.places n j ≡ j
    → (j ≡ l.i → ⊥) → slice_get l.literals j ≡ Some k → IsTrue k.named
    → IsTrue (holds_at l.choice k)
