use Rattle.am_first_sets.specs.PossibleChoices.{IsPossible}
use Rattle.am_first_sets.specs.Reason.{AreSameLiterals, IsReason, EachFailsFirst}
use Rattle.am_first_sets.proofs.reason.leave_out_idle.Given as goal

-- what is named is a reason, and what was looked at fails first
abbrev pub invariant-loop-i : goal.invariant-loop-i
invariant-loop-i l = record {
  same : AreSameLiterals l.fn.candidates l.candidates;
  reason : IsReason (IsPossible l.possible) l.from l.candidates;
  each : EachFailsFirst (IsPossible l.possible) l.i l.candidates;
}
