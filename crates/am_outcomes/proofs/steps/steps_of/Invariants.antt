use Rattle.std.proofs.Common.{◌-◌, length, drop}
use Rattle.am_outcomes.specs.OutcomesView.{tried_view}
use Rattle.am_outcomes.specs.Steps.{AreSteps, GoesThrough}
use Rattle.am_outcomes.proofs.steps.steps_of.Given as goal

-- the steps of the last configurations are added to those of the silences
abbrev pub invariant-loop-i : goal.invariant-loop-i
invariant-loop-i l = record {
  steps : AreSteps l.steps.items;
  goes : GoesThrough l.universe (tried_view (drop (length l.configs - l.i) l.configs) l.silences)
      l.steps.items (length l.steps.items);
}
