use Rattle.am_config.specs.ConfigView.{config_view}
use Rattle.am_outcomes.proofs.LineSteps.{SameFrom}
use Rattle.am_outcomes.proofs.handling.have_same_names.Given as goal

-- the names that are left decide
abbrev pub invariant-loop-i : goal.invariant-loop-i
invariant-loop-i l = SameFrom (config_view l.old) (config_view l.new) l.before l.after l.i
