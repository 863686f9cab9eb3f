-- When the files of a world are accepted, and the order of their faults. (This project's own.)
use Rattle.std.specs.Prelude.{◌≡◌, ◌≤◌, List, [], ◌∷◌, ◌++◌, length, None}
use Rattle.am_config.specs.ConfigFile.{FileSaysConfig}
use Rattle.am_eval.specs.declared.limits.TheConstants.{MAX_PAIRS}
use Rattle.am_eval.specs.World.{World}
use Rattle.am_eval.specs.Pairs.{pairs_of}
use Rattle.am_files.specs.Files.{Files, config_of, SaysSilencesIfAny, SaysAlertsIfAny}
use Rattle.am_files.specs.AskedInstant.{asked_instant, instant_fault}
use Rattle.am_files.specs.Faults.{Stage, config_stage, silences_stage, alerts_stage, instant_stage}
use Rattle.am_files.specs.Faults.{pairs_stage}

-- The files are accepted: they say the world's configuration, silences and alerts, and there are
-- not too many pairs of a rule and an alert that its source side matches. The instant is ignored.
-- Source: own choice.
-- Example: without a file of silences and a file of alerts, the world has no silences and no
-- alerts.
pub record AcceptsFiles (files : Files) (world : World) : Type 0 where
  pub says_config : FileSaysConfig (config_of files.config) world.config
  pub says_silences : SaysSilencesIfAny files.silences world.silences
  pub says_alerts : SaysAlertsIfAny files.alerts world.alerts
  pub few_pairs : length (pairs_of world.config.rules world.alerts) ≤ MAX_PAIRS

-- The files are accepted, and so is the instant: if there is a text, it says an instant, and if
-- there is a file of silences, there is a text. The world has the instant that is asked about.
pub record AcceptsWorld (files : Files) (world : World) : Type 0 where
  pub accepts_files : AcceptsFiles files world
  pub asks_instant : world.instant ≡ asked_instant files.at
  pub has_instant : instant_fault files.silences files.at ≡ None

-- The stages of the files, in order: the configuration file or what stands in for it, the file of
-- silences, and the file of alerts. After them comes the stage of the pairs. These are the stages
-- of a world without its instant. The stages of a world have the instant too, just before the
-- pairs.
-- Source: own choice.
-- Example: let there be an accepted file of silences, no instant, and too many pairs. Then the
-- first fault is `need-at`. If the instant is ignored, it is the `limit` of the pairs.
abbrev pub file_stages : Files → List Stage
file_stages files =
    config_stage (config_of files.config)
    ∷ silences_stage files.silences
    ∷ alerts_stage files.alerts
    ∷ []

abbrev pub pair_stages : Files → List Stage
pair_stages files = pairs_stage (config_of files.config) files.alerts ∷ []

abbrev pub timeless_stages : Files → List Stage
timeless_stages files = file_stages files ++ pair_stages files

abbrev pub world_stages : Files → List Stage
world_stages files =
    file_stages files ++ instant_stage files.silences files.at ∷ pair_stages files
