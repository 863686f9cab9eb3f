use Rattle.am_list_files.proofs.AlertsExample.{says}
use Rattle.am_list_files.proofs.laws.an_example_of_alerts.Goals as goal

pub returns : goal.returns
returns c = record { says = says }
