use Rattle.am_eval.proofs.FlatEnds.{one_end}
use Rattle.am_eval.proofs.laws.an_alert_ends_where_nothing_stops_it.Goals as goal

pub returns-clause-one : goal.returns-clause-one
returns-clause-one c = one_end
