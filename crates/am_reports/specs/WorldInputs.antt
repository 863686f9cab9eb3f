-- The inputs of `lint` and of `where`, when they are accepted, and the order of their faults. (This
-- project's own.)
use Rattle.std.specs.Prelude.{ℕ, List, [], ◌∷◌, ◌++◌, Option}
use Rattle.am_labels.specs.Space.{Space}
use Rattle.am_alerting_rules.specs.RulesFile.{AlertingRule}
use Rattle.am_eval.specs.World.{World}
use Rattle.am_files.specs.AcceptedWorld.{AcceptsWorld, world_stages}
use Rattle.am_files.specs.Faults.{Stage, universe_stage_if_any}
use Rattle.am_files.specs.Files.{Files, SaysUniverseIfAny}
use Rattle.am_report_texts.specs.declared.writing.Form.{Form}
use Rattle.am_classes.specs.declared.alphabet.Alphabet.{Alphabet}
use Rattle.am_reports.specs.RulesFile.{SaysRulesIfAny, rules_stage}

-- The bytes of a universe file, if there is one; the files of the world, with the instant; the
-- bytes of a file of alerting rules, if there is one; which texts the labels of alerts may have;
-- and the form of the report.
pub record WorldInputs : Type 0 where
  pub universe : Option (List ℕ)
  pub files : Files
  pub rules : Option (List ℕ)
  pub alphabet : Alphabet
  pub form : Form

-- The inputs are accepted: the universe file says the space, the files say the world at the
-- instant, and the last file says the alerting rules. Without a universe file the space has no
-- labels, and nothing is impossible in it.
pub record AcceptsWorldInputs (inputs : WorldInputs) (s : Space) (w : World)
    (rules : Option (List AlertingRule)) : Type 0 where
  pub says_universe : SaysUniverseIfAny inputs.universe s
  pub accepts_world : AcceptsWorld inputs.files w
  pub says_rules : SaysRulesIfAny inputs.rules rules

abbrev pub world_input_stages : WorldInputs → List Stage
world_input_stages inputs =
    universe_stage_if_any inputs.universe
    ∷ (world_stages inputs.files ++ rules_stage inputs.rules ∷ [])
