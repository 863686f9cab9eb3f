-- The code of a world: a tree of numbers, by which proofs tell worlds apart.
use Rattle.std.proofs.Common.{ℤ, List, Option, refl}
use Rattle.std.specs.Coded.{Coded, code_by, coded×, coded_ℤ, coded_option}
use Rattle.am_universe.specs.LabelSet.{LabelMap}
use Rattle.am_list_files.specs.SilencesFile.{Silence}
use Rattle.am_list_files.specs.contracts.alert.Alerts as alerts
use Rattle.am_list_files.specs.contracts.silence.Silences as silences
use Rattle.am_config.specs.ConfigFile.{Configuration}
use Rattle.am_config.specs.ConfigCode.{coded_config}
use Rattle.am_eval.specs.World.{World}

-- The code of a world is made of the codes of its parts.
abbrev pub coded_world : Coded World
coded_world =
    code_by (Configuration × (List Silence × (List LabelMap × Option ℤ)))
    (coded× coded_config
    (coded× silences.the_row.coded (coded× alerts.the_row.coded (coded_option coded_ℤ))))
    (λ w. (w.config, (w.silences, (w.alerts, w.instant))))
    (λ p. record { config = p.0; silences = p.1.0; alerts = p.1.1.0; instant = p.1.1.1 })
    (λ _. refl)
