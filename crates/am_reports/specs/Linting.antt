-- What `lint` owes. (This project's own.)
use Rattle.std.specs.Prelude.{◌≡◌, ◌⊎◌, ℕ, List, ◌++◌, Bool, nat_lt}
use Rattle.std.specs.Prelude.{Option, option_map}
use Rattle.am_universe.specs.declared.place.Place.{Place}
use Rattle.am_universe.specs.LabelSet.{LabelMap}
use Rattle.am_labels.specs.Space.{Space}
use Rattle.am_json.specs.Pointer.{Refusal}
use Rattle.am_alerting_rules.specs.RulesFile.{AlertingRule}
use Rattle.am_eval.specs.World.{World}
use Rattle.am_files.specs.Promise.{Promise}
use Rattle.am_classes.specs.declared.alphabet.Alphabet.{Alphabet}
use Rattle.am_asked.specs.Made.{undeclared}
use Rattle.am_outcomes.specs.Configurations.{One}
use Rattle.am_reports.specs.WorldInputs.{WorldInputs, AcceptsWorldInputs, world_input_stages}
use Rattle.am_files.specs.Faults.{later_stages}
use Rattle.am_asked.specs.OriginPointer.{matcher_places}
use Rattle.am_reports.specs.Made.{AreDeclaredWhole, IsDeclaredRefusal, IsRoutesRefusal}
use Rattle.am_report_texts.specs.Line.{Line, count_findings}
use Rattle.am_lint.specs.LintLines.{Said}
use Rattle.am_lint.specs.declared.found.ReceiverFinding.{ReceiverFinding}
use Rattle.am_report_texts.specs.declared.writing.Form.{Form}
use Rattle.am_report_texts.specs.Written.{IsWritten}
use Rattle.am_reports.specs.LintLines.{lint_report, alert_lines, reached_lines, SaysOfAllRoutes}
use Rattle.am_reports.specs.LintLines.{SaysOfRules, SaysOfSilences, IsRulesRefusal}
use Rattle.am_reports.specs.LintLines.{IsSilencesRefusal}
use Rattle.am_reports.specs.RulesReach.{AreReachedIfAny, IsReachRefusal, fixed_sets}
use Rattle.am_firing.specs.Reach.{Reached}
use Rattle.am_unseen.specs.UnseenLines.{unseen_lines}

-- What is said is refused at this place for a label that the universe file declares; or no such
-- label lacks a value, and it is refused for the routes, a rule or a silence, or for the alerting
-- rules. If there is a universe file, its impossible lists count for rules and silences, but the
-- labels that it declares do not.
abbrev pub IsLintRefusal : Alphabet → Space → World → Option (List AlertingRule) → Place → Refusal
    → Type 0
IsLintRefusal a s w alerting place r =
    IsDeclaredRefusal a s (One w.config) place r
    ⊎ (AreDeclaredWhole a s (One w.config) s.labels
    × (IsRoutesRefusal a s.impossible w.config place r
    ⊎ (IsRulesRefusal a (undeclared s) w.config.rules place r
    ⊎ (IsSilencesRefusal a (undeclared s) w place r
    ⊎ IsReachRefusal a (undeclared s) w.config alerting place r))))

-- The inputs are accepted, and what they say is refused at this place.
abbrev pub RefusesLint : WorldInputs → Place → Refusal → Type 0
RefusesLint inputs place r =
    (s : Space) × (w : World) × (alerting : Option (List AlertingRule))
    × AcceptsWorldInputs inputs s w alerting × IsLintRefusal inputs.alphabet s w alerting place r

-- The lines are those of a report on a world, for every alert that counts. What they say about
-- routes and receivers, rules and silences is true, and so is what they say of the alerts of
-- alerting rules and of those of the file, if these are known.
-- Source: own choice.
-- Example: if some ordinary alert ends at each route, each receiver gets one, and there are no
-- rules, silences, alerting rules and alerts, there are no lines.
pub record AreLintLines (a : Alphabet) (s : Space) (w : World) (alerts : Option (List LabelMap))
    (alerting : Option (List AlertingRule)) (lines : List Line) : Type 0 where
  pub found_routes : List Said
  pub found_receivers : List (Option ReceiverFinding)
  pub routes : List Line
  pub says_of_routes :
      SaysOfAllRoutes a (undeclared s) w.config found_routes found_receivers routes
  pub rules : List Line
  pub says_of_rules : SaysOfRules a (undeclared s) w.config.rules rules
  pub silences : List Line
  pub says_of_silences : SaysOfSilences a (undeclared s) w alerts silences
  pub reached : Option Reached
  pub are_reached : AreReachedIfAny a (undeclared s) w.config alerting reached
  pub lines_are : lines ≡ routes ++ (rules ++ (silences
      ++ (reached_lines w.config reached found_routes found_receivers says_of_rules.found
      ++ (alert_lines w alerts found_routes found_receivers says_of_rules.found
      says_of_silences.found
      ++ unseen_lines w (fixed_sets alerting)))))

-- No label that the space declares lacks a value, and the text is a report of such lines, with this
-- number of findings.
pub record IsLinted (a : Alphabet) (s : Space) (w : World) (alerts : Option (List LabelMap))
    (alerting : Option (List AlertingRule)) (form : Form) (findings : ℕ) (report : List ℕ)
    : Type 0 where
  pub whole : AreDeclaredWhole a s (One w.config) s.labels
  pub lines : List Line
  pub are : AreLintLines a s w alerts alerting lines
  pub counted : findings ≡ count_findings lines
  pub text : IsWritten form (lint_report lines) report

-- The inputs are accepted, no label that the universe file declares lacks a value, and the text is
-- a report of what is wrong with the configuration, for every possible alert; with `--ascii`, for
-- every possible alert whose values are printable ASCII. `found` tells whether there is a finding.
-- Source: own choice.
-- Example: if the top-level route is the only route and has the receiver `a`, a receiver `b` is
-- declared too, and there are no rules, silences, alerting rules and alerts, the report is the
-- lines `receiver "b" unmatched: no route names it` and `# 1 finding, 0 notes`.
pub record LintsFiles (inputs : WorldInputs) (found : Bool) (report : List ℕ) : Type 0 where
  pub space : Space
  pub world : World
  pub alerting : Option (List AlertingRule)
  pub accepts : AcceptsWorldInputs inputs space world alerting
  pub findings : ℕ
  pub is_found : found ≡ nat_lt 0 findings
  pub linted : IsLinted inputs.alphabet space world
      (option_map (λ file. world.alerts) inputs.files.alerts) alerting inputs.form findings report

-- What `lint` owes. It returns whether there is a finding.
-- Source: own choice.
-- Example: if the configuration is not JSON, the first fault is its `not-json`.
abbrev pub lint_promise : WorldInputs → Promise Bool
lint_promise inputs = record {
  stages = world_input_stages inputs ++ later_stages matcher_places (RefusesLint inputs);
  May = LintsFiles inputs;
}
