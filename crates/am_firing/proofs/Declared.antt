-- The receivers of an alert are declared.
use Rattle.std.proofs.Common.{◌<◌, ℕ, length, subst}
use Rattle.std.specs.List.{AllByRecursion}
use Rattle.am_universe.specs.LabelSet.{LabelMap}
use Rattle.am_universe.proofs.ListLemmas.{AllByRecursion-each, Contains-from_IsIn}
use Rattle.am_config.specs.ConfigFile.{Configuration, IsConfig}
use Rattle.am_eval.specs.Routing.{receivers}
use Rattle.am_eval.proofs.AbsentParts.{receiver_below}
use Rattle.am_eval.proofs.SimpleParts.{end_of_receiver}

pub receivers_declared : (c : Configuration) (s : LabelMap) → IsConfig c
    → AllByRecursion (λ receiver. receiver < length c.receivers) (receivers s c)
receivers_declared c s sound =
    AllByRecursion-each (λ receiver. receiver < length c.receivers) (receivers s c) (λ receiver there.
    let h = end_of_receiver s c receiver (Contains-from_IsIn (receivers s c) receiver there) in
    subst (λ (r : ℕ). r < length c.receivers) h.4
    (receiver_below (length c.receivers) h.0 c.root h.1 sound.receivers_declared h.3))
