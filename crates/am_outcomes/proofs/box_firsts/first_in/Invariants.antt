use Rattle.std.proofs.Common.{◌≡◌, length}
use Rattle.am_outcomes.proofs.BoxLeast.{AreLeast}
use Rattle.am_outcomes.proofs.box_firsts.first_in.Given as goal

-- the positions so far are the least ones
abbrev pub invariant-loop-label : goal.invariant-loop-label
invariant-loop-label l = record {
  long : length l.choice ≡ l.label;
  least : AreLeast l.positions l.choice;
}
