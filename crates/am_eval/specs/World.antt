-- What questions are asked about: a configuration, silences, firing alerts and an instant.
use Rattle.std.specs.Prelude.{ℤ, List, Option}
use Rattle.am_universe.specs.LabelSet.{LabelMap}
use Rattle.am_config.specs.ConfigFile.{Configuration}
use Rattle.am_list_files.specs.SilencesFile.{Silence}

-- A world: a configuration, silences, firing alerts, each as its labels, and the instant that you
-- ask about, if there is one, in nanoseconds since 1970-01-01T00:00:00Z.
-- Source: own choice.
-- Example: the world of `explain` with `--config` alone has no silences, no alerts and no instant.
pub record World : Type 0 where
  pub config : Configuration
  pub silences : List Silence
  pub alerts : List LabelMap
  pub instant : Option ℤ
