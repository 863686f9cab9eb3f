use Rattle.am_first_sets.specs.PossibleChoices.{IsPossible}
use Rattle.am_first_sets.specs.Literals.{IsUnmet}
use Rattle.am_first_sets.specs.Reason.{AreFewer, AreNamedBefore}
use Rattle.am_first_sets.proofs.reason.leave_out.Given as goal

-- what is named is enough
abbrev pub invariant-loop-labels : goal.invariant-loop-labels
invariant-loop-labels l = record {
  fewer : AreFewer l.fn.candidates l.candidates;
  first : AreNamedBefore l.from l.candidates;
  enough : IsUnmet (IsPossible l.possible) l.candidates;
}
