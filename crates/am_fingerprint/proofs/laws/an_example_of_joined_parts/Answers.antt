use Rattle.std.proofs.Common.{refl}
use Rattle.am_fingerprint.proofs.laws.an_example_of_joined_parts.Goals as goal

pub returns : goal.returns
returns c = record { joined = refl; length = refl }
