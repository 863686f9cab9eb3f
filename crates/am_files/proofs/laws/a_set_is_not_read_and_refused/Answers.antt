use Rattle.am_files.proofs.SetRefusals.{set_accepted, set_kind}
use Rattle.am_files.proofs.laws.a_set_is_not_read_and_refused.Goals as goal

pub returns : goal.returns
returns c = record { accepted = set_accepted; one = set_kind }
