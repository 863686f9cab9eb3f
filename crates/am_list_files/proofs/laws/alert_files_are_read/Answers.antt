use Rattle.am_list_files.proofs.AlertsLaws.{alerts_file_laws}
use Rattle.am_list_files.proofs.laws.alert_files_are_read.Goals as goal

pub returns : goal.returns
returns c = record { read = alerts_file_laws.exact }
