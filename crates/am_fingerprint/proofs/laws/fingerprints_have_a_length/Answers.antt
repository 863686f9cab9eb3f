use Rattle.std.proofs.Common.{refl}
use Rattle.am_fingerprint.proofs.PartLemmas.{fingerprint_length, fingerprint_bytes}
use Rattle.am_fingerprint.proofs.laws.fingerprints_have_a_length.Goals as goal

pub returns : goal.returns
returns c = record { bytes = refl; length = fingerprint_length; below = fingerprint_bytes }
