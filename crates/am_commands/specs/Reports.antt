-- The results of `dead` and `receivers`. (This project's own.)
use Rattle.std.specs.Prelude.{ℕ, List, [], ◌∷◌, ⊤}
use Rattle.am_labels.specs.Space.{Space}
use Rattle.am_list_files.specs.UniverseFile.{FileSaysUniverse}
use Rattle.am_config.specs.ConfigFile.{Configuration, FileSaysConfig}
use Rattle.am_files.specs.Faults.{Stage, universe_stage, config_stage}
use Rattle.am_files.specs.Promise.{Promise}
use Rattle.am_coverage.specs.Report.{IsRoutesReport, IsReceiversReport}

-- The files are accepted: they say the space and the configuration.
pub record AcceptsReport (universe_file config_file : List ℕ) (space : Space)
    (configuration : Configuration) : Type 0 where
  pub says_universe : FileSaysUniverse universe_file space
  pub says_config : FileSaysConfig config_file configuration

-- The files are accepted, and the text is a report of what they say.
-- Source: own choice.
-- Example: over the universe `{"labels": []}` the report of `dead` on a configuration with only the
-- top-level route is the lines `/ live {}` and `# end`.
pub record ReportsFiles (universe_file config_file : List ℕ)
    (IsReport : Space → Configuration → List ℕ → Type 0) (report : List ℕ) : Type 0 where
  pub space : Space
  pub configuration : Configuration
  pub accepts : AcceptsReport universe_file config_file space configuration
  pub reports : IsReport space configuration report

-- What both calls owe. Their stages are the universe file and then the configuration file.
-- Source: own choice.
-- Example: if neither file is JSON, the first fault is the `not-json` of the universe file.
abbrev pub report_stages : List ℕ → List ℕ → List Stage
report_stages universe_file config_file =
    universe_stage universe_file ∷ config_stage config_file ∷ []

abbrev pub report_promise : (Space → Configuration → List ℕ → Type 0) → List ℕ → List ℕ
    → Promise ⊤
report_promise IsReport universe_file config_file = record {
  stages = report_stages universe_file config_file;
  May = λ _. ReportsFiles universe_file config_file IsReport;
}

abbrev pub dead_promise : List ℕ → List ℕ → Promise ⊤
dead_promise = report_promise IsRoutesReport

abbrev pub receivers_promise : List ℕ → List ℕ → Promise ⊤
receivers_promise = report_promise IsReceiversReport
