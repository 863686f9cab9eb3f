-- The inputs of `compare`, when they are accepted, and the order of their faults. (This project's
-- own.)
use Rattle.std.specs.Prelude.{ℕ, List, [], ◌∷◌, Option}
use Rattle.am_universe.specs.declared.place.Place.{Place}
use Rattle.am_universe.specs.declared.place.Place.TheVariants as places
use Rattle.am_labels.specs.Space.{Space}
use Rattle.am_alerting_rules.specs.RulesFile.{AlertingRule}
use Rattle.am_config.specs.ConfigForm.{ConfigFileRefusedFor}
use Rattle.am_config.specs.WholeConfig.{WholeConfiguration, FileSaysWholeConfig}
use Rattle.am_files.specs.Faults.{Stage}
use Rattle.am_report_texts.specs.declared.writing.Form.{Form}
use Rattle.am_classes.specs.declared.alphabet.Alphabet.{Alphabet}
use Rattle.am_files.specs.Files.{SaysUniverseIfAny}
use Rattle.am_files.specs.Faults.{universe_stage_if_any}
use Rattle.am_reports.specs.RulesFile.{SaysRulesIfAny, rules_stage}

-- The bytes of a universe file, if there is one, those of the old and the new configuration file,
-- and those of a file of alerting rules, if there is one; which texts the labels of alerts may
-- have; and the form of the report.
pub record CompareInputs : Type 0 where
  pub universe : Option (List ℕ)
  pub old : List ℕ
  pub new : List ℕ
  pub rules : Option (List ℕ)
  pub alphabet : Alphabet
  pub form : Form

-- The files are accepted: they say the space, both configurations and the alerting rules. Without a
-- universe file the space has no labels, and nothing is impossible in it.
pub record AcceptsCompareInputs (inputs : CompareInputs) (s : Space)
    (old new : WholeConfiguration) (rules : Option (List AlertingRule)) : Type 0 where
  pub says_universe : SaysUniverseIfAny inputs.universe s
  pub says_old : FileSaysWholeConfig inputs.old old
  pub says_new : FileSaysWholeConfig inputs.new new
  pub says_rules : SaysRulesIfAny inputs.rules rules

-- The stage of a configuration file whose faults are at the given place.
abbrev pub config_stage_at : Place → List ℕ → Stage
config_stage_at place bytes = record {
  place = place;
  accepts = (w : WholeConfiguration) × FileSaysWholeConfig bytes w;
  refuses = ConfigFileRefusedFor bytes;
}

abbrev pub compare_input_stages : CompareInputs → List Stage
compare_input_stages inputs =
    universe_stage_if_any inputs.universe
    ∷ config_stage_at places.Old inputs.old
    ∷ config_stage_at places.New inputs.new
    ∷ rules_stage inputs.rules
    ∷ []
