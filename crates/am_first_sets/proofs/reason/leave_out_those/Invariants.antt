use Rattle.std.proofs.Common.{◌≡◌, None}
use Rattle.am_first_sets.specs.PossibleChoices.{IsPossible}
use Rattle.am_first_sets.specs.Literals.{IsMet, IsUnmet}
use Rattle.am_first_sets.specs.Reason.{AreFewer, AreNamedBefore}
use Rattle.am_first_sets.proofs.ReasonLemmas.{AreNeededBefore}
use Rattle.am_first_sets.proofs.reason.leave_out_those.Given as goal

-- what is named is enough, and what was looked at is needed
abbrev pub invariant-loop-i : goal.invariant-loop-i
invariant-loop-i l = record {
  fewer : AreFewer l.fn.candidates l.candidates;
  first : AreNamedBefore l.from l.candidates;
  enough : IsUnmet (IsPossible l.possible) l.candidates;
  needed : l.labels ≡ None
      → AreNeededBefore (IsMet (IsPossible l.possible)) l.from l.i l.candidates;
}
