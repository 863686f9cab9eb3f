use Rattle.std.proofs.Common.{length}
use Rattle.am_plans.proofs.route_groups.+kin_of.Given as goal

abbrev pub decreases-kin_of : goal.decreases-kin_of
decreases-kin_of l = length l.other.now
