use Rattle.std.proofs.Common.{◌≡◌, length}
use Rattle.am_labels.specs.PatternProfile.{in_profile, has_no_refused_piece}
use Rattle.am_labels.proofs.pattern_profile.is_in_profile.Given as goal

abbrev pub invariant-loop-rest : goal.invariant-loop-rest
invariant-loop-rest l = has_no_refused_piece l.context l.rest ≡ in_profile l.pattern

abbrev pub decreases-loop-rest : goal.decreases-loop-rest
decreases-loop-rest l = length l.rest
