use Rattle.am_config.proofs.SmallestConfig.{says}
use Rattle.am_config.proofs.laws.the_smallest_configuration.Goals as goal

pub returns : goal.returns
returns c = record { says = says }
