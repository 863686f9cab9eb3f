use Rattle.am_coverage.proofs.ReportFacts.{one_routes_report, one_receivers_report}
use Rattle.am_coverage.proofs.laws.a_report_is_one_text.Goals as goal

pub returns : goal.returns
returns c = record { routes = one_routes_report; receivers = one_receivers_report }
