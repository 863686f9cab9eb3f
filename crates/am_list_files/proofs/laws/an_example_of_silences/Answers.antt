use Rattle.am_list_files.proofs.SilencesExample.{says}
use Rattle.am_list_files.proofs.laws.an_example_of_silences.Goals as goal

pub returns : goal.returns
returns c = record { says = says }
