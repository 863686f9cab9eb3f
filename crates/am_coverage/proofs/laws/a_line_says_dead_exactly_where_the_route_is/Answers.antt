use Rattle.am_coverage.proofs.ReportFacts.{line_says_dead, line_says_never}
use Rattle.am_coverage.proofs.laws.a_line_says_dead_exactly_where_the_route_is.Goals as goal

pub returns : goal.returns
returns c = record { dead = line_says_dead; never_entered = line_says_never }
