-- What `where` owes. (This project's own.)
use Rattle.std.specs.Prelude.{◌≡◌, ℕ, List, [], ◌∷◌, ◌++◌, map, Option, unwrap_or, ⊤}
use Rattle.std.specs.List.{AllByRecursion}
use Rattle.am_universe.specs.declared.place.Place.{Place}
use Rattle.am_labels.specs.Space.{Space}
use Rattle.am_json.specs.Pointer.{Refusal}
use Rattle.am_alerting_rules.specs.RulesFile.{AlertingRule}
use Rattle.am_eval.specs.Silencing.{is_silenced}
use Rattle.am_eval.specs.World.{World}
use Rattle.am_files.specs.Files.{config_of}
use Rattle.am_files.specs.Promise.{Promise}
use Rattle.am_files.specs.Faults.{later_stages}
use Rattle.am_classes.specs.declared.alphabet.Alphabet.{Alphabet}
use Rattle.am_asked.specs.OriginPointer.{matcher_places}
use Rattle.am_report_texts.specs.declared.writing.Form.{Form}
use Rattle.am_report_texts.specs.Written.{IsWritten}
use Rattle.am_outcomes.specs.Configurations.{Configurations, Silenced}
use Rattle.am_rule_outcomes.specs.RuleOutcomes.{IsRuleAlert, RuleOutcome, AreRuleOutcomes}
use Rattle.am_rule_outcomes.specs.RuleOutcomes.{with_outcomes}
use Rattle.am_rule_outcomes.specs.WhereLines.{where_report}
use Rattle.am_rule_outcomes.specs.Narrowed.{Narrowed}
use Rattle.am_reports.specs.ActiveSilences.{active_silences}
use Rattle.am_reports.specs.AskedReceivers.{AreAsked, receivers_stage}
use Rattle.am_reports.specs.WorldInputs.{WorldInputs, AcceptsWorldInputs, world_input_stages}
use Rattle.am_reports.specs.Made.{AreDeclaredWhole}
use Rattle.am_reports.specs.RulesOutcomes.{AreFoundFor, IsRulesRefusal}

-- The configuration of a world, and its active silences.
abbrev pub silenced_by : World → Configurations
silenced_by w = Silenced w.config (active_silences w)

-- Each rule has outcomes that are those of its alerts that count.
abbrev pub HasOutcomes : Alphabet → Space → World → AlertingRule × List RuleOutcome → Type 0
HasOutcomes a s w rule =
    AreRuleOutcomes (IsRuleAlert a s rule.0) w.config (is_silenced w) rule.1

-- The text is a report of where the alerts of rules go, for the alerts of a space over an alphabet:
-- for each rule, in the order of the file, a line for each list of receivers to which some alert of
-- the rule goes, or a line that says that there is no such alert. The outcomes of a rule are found
-- over a universe that is narrowed to its alerts, and are shown in declared order with the first
-- choice of each. If receivers are named, there are only the lines with one of them.
-- Source: own choice.
-- Example: `"node" {alertname="DiskFull",severity="warning"} -> "mail"` says that some alert of the
-- rule `DiskFull` of the group `node` goes to `mail` and to no other receiver, such as the one with
-- these labels.
pub record IsWhereReport (a : Alphabet) (s : Space) (w : World) (rules : List AlertingRule)
    (names : List (List ℕ)) (form : Form) (report : List ℕ) : Type 0 where
  pub receivers : Option (List ℕ)
  pub asked : AreAsked w.config names receivers
  pub outcomes : List (AlertingRule × List RuleOutcome)
  pub each_rule : map (λ rule. rule.0) outcomes ≡ rules
  pub are : AllByRecursion (HasOutcomes a s w) outcomes
  pub found : List (Option Narrowed)
  pub over : AreFoundFor a s.impossible (silenced_by w) rules found
  pub order : outcomes ≡ with_outcomes rules found
  pub text : IsWritten form (where_report w.config receivers outcomes) report

-- The inputs are accepted, no label that the universe file declares lacks a value, and the text is
-- a report of the rules of the file, if there is one, for every alert that no impossible list
-- matches; with `--ascii`, for every such alert whose values are printable ASCII.
-- Source: own choice.
-- Example: if the top-level route is the only route and has the receiver `a`, and the rule `Down`
-- of the group `g` sets no label, the report is the lines `"g" {alertname="Down"} -> "a"` and
-- `# 1 rule`.
pub record ReportsWhere (inputs : WorldInputs) (names : List (List ℕ)) (report : List ℕ)
    : Type 0 where
  pub space : Space
  pub world : World
  pub rules : Option (List AlertingRule)
  pub accepts : AcceptsWorldInputs inputs space world rules
  pub whole : AreDeclaredWhole inputs.alphabet space (silenced_by world) space.labels
  pub reports : IsWhereReport inputs.alphabet space world (unwrap_or rules []) names
      inputs.form report

-- The inputs are accepted, and what they say is refused at this place.
abbrev pub RefusesWhere : WorldInputs → Place → Refusal → Type 0
RefusesWhere inputs place r =
    (s : Space) × (w : World) × (rules : Option (List AlertingRule))
    × AcceptsWorldInputs inputs s w rules
    × IsRulesRefusal inputs.alphabet s (silenced_by w) (unwrap_or rules []) place r

-- What `where` owes, if receivers with these names are asked about.
-- Source: own choice.
-- Example: if the file of rules is not JSON, and a name is that of no receiver, the first fault is
-- `not-json`.
abbrev pub where_promise : WorldInputs → List (List ℕ) → Promise ⊤
where_promise inputs names = record {
  stages = world_input_stages inputs
      ++ receivers_stage (config_of inputs.files.config) names
      ∷ later_stages matcher_places (RefusesWhere inputs);
  May = λ _. ReportsWhere inputs names;
}
