use Rattle.am_list_files.proofs.AlertsLaws.{alerts_laws}
use Rattle.am_list_files.proofs.laws.alerts_are_read.Goals as goal

pub returns : goal.returns
returns c = record { read = alerts_laws.exact; sound = alerts_laws.sound }
