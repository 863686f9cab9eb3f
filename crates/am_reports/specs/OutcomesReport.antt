-- What `outcomes` owes. (This project's own.)
use Rattle.std.specs.Prelude.{ℕ, List, ◌++◌, ⊤}
use Rattle.am_universe.specs.declared.place.Place.{Place}
use Rattle.am_universe.specs.Universe.{Label}
use Rattle.am_labels.specs.Space.{Space}
use Rattle.am_json.specs.Pointer.{Refusal}
use Rattle.am_config.specs.ConfigFile.{Configuration}
use Rattle.am_files.specs.Promise.{Promise}
use Rattle.am_classes.specs.declared.alphabet.Alphabet.{Alphabet}
use Rattle.am_outcomes.specs.OutcomeLines.{outcomes_report}
use Rattle.am_report_texts.specs.declared.writing.Form.{Form}
use Rattle.am_report_texts.specs.Written.{IsWritten}
use Rattle.am_outcomes.specs.Configurations.{One}
use Rattle.am_files.specs.Faults.{later_stages}
use Rattle.am_asked.specs.OriginPointer.{matcher_places}
use Rattle.am_reports.specs.ReportInputs.{ReportInputs, AcceptsReportInputs, report_input_stages}
use Rattle.am_reports.specs.LaterStages.{IsOutcomesRefusal}
use Rattle.am_reports.specs.Made.{AreDeclaredWhole}
use Rattle.am_reports.specs.AllOutcomes.{AreAllOutcomes}

-- The text is a report of the outcomes of a configuration, for the alerts of a space over an
-- alphabet: a line for each outcome, and then `# end`.
-- Source: own choice.
-- Example: `"db-mail" {team="db"}` says that `{team="db"}` goes to `db-mail`.
pub record IsOutcomesReport (a : Alphabet) (s : Space) (c : Configuration) (form : Form)
    (report : List ℕ) : Type 0 where
  pub labels : List Label
  pub outcomes : List (List (List ℕ) × List ℕ)
  pub are : AreAllOutcomes a s (One c) labels outcomes
  pub text : IsWritten form (outcomes_report labels c outcomes) report

-- The inputs are accepted, no label that the universe file declares lacks a value, and the text is
-- a report of the outcomes of the configuration, for every possible alert; with `--ascii`, for
-- every possible alert whose values are printable ASCII.
-- Source: own choice.
-- Example: if the top-level route is the only route and has the receiver `a`, the report is the
-- lines `"a" {}` and `# end`.
pub record ReportsOutcomes (inputs : ReportInputs) (report : List ℕ) : Type 0 where
  pub space : Space
  pub configuration : Configuration
  pub accepts : AcceptsReportInputs inputs space configuration
  pub whole : AreDeclaredWhole inputs.alphabet space (One configuration) space.labels
  pub reports : IsOutcomesReport inputs.alphabet space configuration inputs.form report

-- The inputs are accepted, and what they say is refused at this place.
abbrev pub RefusesOutcomes : ReportInputs → Place → Refusal → Type 0
RefusesOutcomes inputs place r =
    (s : Space) × (c : Configuration) × AcceptsReportInputs inputs s c
    × IsOutcomesRefusal inputs.alphabet s (One c) place r

-- What `outcomes` owes.
-- Source: own choice.
-- Example: if the configuration is not JSON, the first fault is its `not-json`.
abbrev pub outcomes_promise : ReportInputs → Promise ⊤
outcomes_promise inputs = record {
  stages = report_input_stages inputs ++ later_stages matcher_places (RefusesOutcomes inputs);
  May = λ _. ReportsOutcomes inputs;
}
