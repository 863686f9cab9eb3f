use Rattle.am_config.proofs.ConfigLaws.{config_laws}
use Rattle.am_config.proofs.laws.configurations_are_read.Goals as goal

pub returns : goal.returns
returns c = record {
  read = config_laws.exact;
  sound = config_laws.sound;
  refused = config_laws.refused;
}
