use Rattle.am_coverage.proofs.ReportFacts.{line_says_unmatched}
use Rattle.am_coverage.proofs.laws.a_line_says_unmatched_exactly_where_the_receiver_is.Goals as goal

pub returns : goal.returns
returns c = record { unmatched = line_says_unmatched }
