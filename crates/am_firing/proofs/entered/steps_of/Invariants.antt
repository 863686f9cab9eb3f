use Rattle.std.proofs.Common.{◌≡◌, take}
use Rattle.am_firing.proofs.entered.steps_of.Given as goal

-- the steps so far
abbrev pub invariant-loop-step : goal.invariant-loop-step
invariant-loop-step l = l.steps.items ≡ take l.step-index l.path
