-- What the input files say, and what stands in for a file that is not given.
use Rattle.std.specs.Prelude.{◌≡◌, ℕ, List, [], Option, Some, None, unwrap_or}
use Rattle.am_config.specs.SmallestConfig.{smallest_config_file}
use Rattle.am_universe.specs.LabelSet.{LabelMap}
use Rattle.am_list_files.specs.SilencesFile.{Silence, FileSaysSilences}
use Rattle.am_list_files.specs.AlertsFile.{FileSaysAlerts}
use Rattle.am_list_files.specs.UniverseFile.{FileSaysUniverse}
use Rattle.am_labels.specs.Space.{Space}

-- The input files other than the universe file, each as its bytes, and the text of the instant that
-- is asked about. All are optional.
pub record Files : Type 0 where
  pub config : Option (List ℕ)
  pub silences : Option (List ℕ)
  pub alerts : Option (List ℕ)
  pub at : Option (List ℕ)

-- The bytes of the configuration file, or of what stands in for it: the smallest configuration.
-- (This project's own.)
abbrev pub config_of : Option (List ℕ) → List ℕ
config_of config = unwrap_or config smallest_config_file

-- The silences are those of the file. Without a file there are none.
-- Source: own choice.
-- Example: without a file, and with one that is `null` or `[]`, there are no silences.
abbrev pub SaysSilencesIfAny : Option (List ℕ) → List Silence → Type 0
SaysSilencesIfAny None silences = silences ≡ []
SaysSilencesIfAny (Some bytes) silences = FileSaysSilences bytes silences

-- The alerts are those of the file. Without a file there are none.
-- Source: own choice.
-- Example: without a file, and with one that is `null` or `[]`, no alert fires.
abbrev pub SaysAlertsIfAny : Option (List ℕ) → List LabelMap → Type 0
SaysAlertsIfAny None alerts = alerts ≡ []
SaysAlertsIfAny (Some bytes) alerts = FileSaysAlerts bytes alerts

-- The space is that of the universe file. Without a file it has no labels, and nothing is
-- impossible in it.
abbrev pub SaysUniverseIfAny : Option (List ℕ) → Space → Type 0
SaysUniverseIfAny None s = s ≡ record { labels = []; impossible = [] }
SaysUniverseIfAny (Some bytes) s = FileSaysUniverse bytes s
