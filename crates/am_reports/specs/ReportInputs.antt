-- The inputs of a report on one configuration, when they are accepted, and the order of their
-- faults. (This project's own.)
use Rattle.std.specs.Prelude.{ℕ, List, [], ◌∷◌, Option}
use Rattle.am_labels.specs.Space.{Space}
use Rattle.am_config.specs.ConfigFile.{Configuration, FileSaysConfig}
use Rattle.am_files.specs.Faults.{Stage, config_stage}
use Rattle.am_report_texts.specs.declared.writing.Form.{Form}
use Rattle.am_classes.specs.declared.alphabet.Alphabet.{Alphabet}
use Rattle.am_files.specs.Files.{SaysUniverseIfAny}
use Rattle.am_files.specs.Faults.{universe_stage_if_any}

-- The bytes of a universe file, if there is one, and those of the configuration file; which texts
-- the labels of alerts may have; and the form of the report.
pub record ReportInputs : Type 0 where
  pub universe : Option (List ℕ)
  pub config : List ℕ
  pub alphabet : Alphabet
  pub form : Form

-- The files are accepted: they say the space and the configuration. Without a universe file the
-- space has no labels, and nothing is impossible in it.
pub record AcceptsReportInputs (inputs : ReportInputs) (s : Space) (c : Configuration)
    : Type 0 where
  pub says_universe : SaysUniverseIfAny inputs.universe s
  pub says_config : FileSaysConfig inputs.config c

abbrev pub report_input_stages : ReportInputs → List Stage
report_input_stages inputs =
    universe_stage_if_any inputs.universe ∷ config_stage inputs.config ∷ []
