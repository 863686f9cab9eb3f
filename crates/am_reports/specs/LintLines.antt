-- What the lines of `lint` say about the routes, the rules and the silences of a world, for every
-- alert, and what they say of the alerts of a file. (This project's own.)
use Rattle.std.specs.Prelude.{◌≡◌, ℕ, List, [], Option, Some, None}
use Rattle.std.specs.List.{AllZip, flat_map, enumerate_from, zip}
use Rattle.am_universe.specs.declared.place.Place.{Place}
use Rattle.am_universe.specs.declared.place.Place.TheVariants as places
use Rattle.am_universe.specs.Universe.{Label}
use Rattle.am_universe.specs.LabelSet.{LabelMap}
use Rattle.am_labels.specs.Space.{Space}
use Rattle.am_json.specs.Pointer.{Refusal}
use Rattle.am_config.specs.ConfigFile.{Configuration, Rule}
use Rattle.am_eval.specs.World.{World}
use Rattle.am_classes.specs.declared.alphabet.Alphabet.{Alphabet}
use Rattle.am_complete.specs.declared.origin.Origin.TheVariants as origin_is
use Rattle.am_asked.specs.OriginPointer.{origin_pointer}
use Rattle.am_report_texts.specs.Line.{Line, Report, count_findings, count_notes}
use Rattle.am_lint.specs.Report.{SaysOfRoutes}
use Rattle.am_lint.specs.LintLines.{Said, count_pieces}
use Rattle.am_lint.specs.declared.found.ReceiverFinding.{ReceiverFinding}
use Rattle.am_idle.specs.Rules.{IsRuleFinding}
use Rattle.am_idle.specs.RuleLines.{rule_lines}
use Rattle.am_idle.specs.RuleFindings.{IsFirstRefusedRule}
use Rattle.am_idle.specs.Silences.{IsSilenceFinding, IsFirstRefused}
use Rattle.am_idle.specs.SilenceLines.{silence_lines}
use Rattle.am_idle.specs.declared.rule_findings.RuleFinding.{RuleFinding}
use Rattle.am_idle.specs.declared.silences.SilenceFinding.{SilenceFinding}
use Rattle.am_firing.specs.FiringLines.{firing_lines, unreached_lines}
use Rattle.am_firing.specs.Reach.{Reached}
use Rattle.am_firing.specs.declared.reached.Whose.TheVariants as whose_are
use Rattle.am_outcomes.specs.Configurations.{One}
use Rattle.am_reports.specs.Made.{StandsForAll}

-- The report of these lines, which ends with the numbers of findings and notes.
-- Source: own choice.
-- Example: without lines it is `# 0 findings, 0 notes`.
abbrev pub lint_report : List Line → Report
lint_report lines = record {
  lines = lines;
  last = count_pieces (count_findings lines) (count_notes lines);
}

-- The lines about things, each made from the position of a thing, the thing, and its finding.
abbrev pub each_lines : {X F : Type 0} → (ℕ → X → F → List Line) → List X → List F → List Line
each_lines lines xs found =
    flat_map (λ e. lines e.0 e.1.0 e.1.1) (enumerate_from 0 (zip xs found))

-- What the lines say about each route and each receiver is true. The label sets that they show are
-- over a universe that stands for every alert.
-- Source: own choice.
-- Example: if some ordinary alert ends at each route, and some goes to each receiver, there are no
-- lines.
pub record SaysOfAllRoutes (a : Alphabet) (s : Space) (c : Configuration) (routes : List Said)
    (receivers : List (Option ReceiverFinding)) (lines : List Line) : Type 0 where
  pub labels : List Label
  pub stands : StandsForAll a s.impossible (One c) labels
  pub says : SaysOfRoutes a s labels c routes receivers lines

-- What the lines say about each rule is true: nothing if some alert inhibits another by the rule;
-- that the rule is idle, and why; or that this is not known.
-- Source: own choice.
-- Example: if both sides of the only rule ask for just `team="db"`, and `equal` has no name, there
-- is one line.
pub record SaysOfRules (a : Alphabet) (s : Space) (rules : List Rule) (lines : List Line)
    : Type 0 where
  pub found : List (Option RuleFinding)
  pub each : AllZip (IsRuleFinding a s) rules found
  pub lines_are : lines ≡ each_lines rule_lines rules found

-- What the lines say about each silence is true. The alerts are those that fire, if known.
-- Source: own choice.
-- Example: they say nothing about a silence that is over.
pub record SaysOfSilences (a : Alphabet) (s : Space) (w : World)
    (alerts : Option (List LabelMap)) (lines : List Line) : Type 0 where
  pub found : List (Option SilenceFinding)
  pub each : AllZip (IsSilenceFinding a s w alerts) w.silences found
  pub lines_are : lines ≡ each_lines silence_lines w.silences found

-- The lines about what the alerts of alerting rules do not reach, if the rules are known. They
-- leave out what is said of routes, receivers and rules for every alert.
-- Source: own choice.
-- Example: if the alerts of some rule enter each route, each receiver gets one, and there are no
-- inhibition rules, there are none.
abbrev pub reached_lines :
    Configuration → Option Reached → List Said → List (Option ReceiverFinding)
    → List (Option RuleFinding) → List Line
reached_lines c None routes receivers rules = []
reached_lines c (Some reached) routes receivers rules =
    unreached_lines whose_are.Rules c reached routes receivers rules

-- The lines about what the alerts of a file show: what they do not reach, and which rules and
-- silences mute many of them. They leave out what is said of routes, receivers, rules and silences
-- for every alert. Without a file of alerts there are none.
-- Source: own choice.
-- Example: if the only alert of the file enters each route and goes to each receiver, and there are
-- no rules and silences, there are none.
abbrev pub alert_lines :
    World → Option (List LabelMap) → List Said → List (Option ReceiverFinding)
    → List (Option RuleFinding) → List (Option SilenceFinding) → List Line
alert_lines w None routes receivers rules silences = []
alert_lines w (Some alerts) routes receivers rules silences =
    firing_lines w routes receivers rules silences

-- ---- Why there are no such lines.

-- The refusal points to the first rule that is refused, in the configuration file; or to the first
-- silence that is refused, in the file of silences.
abbrev pub IsRulesRefusal : Alphabet → Space → List Rule → Place → Refusal → Type 0
IsRulesRefusal a s rules place r =
    (position : ℕ) × IsFirstRefusedRule a s rules position r.kind × (place ≡ places.Config)
    × (r.pointer ≡ origin_pointer (origin_is.Rule position))

abbrev pub IsSilencesRefusal : Alphabet → Space → World → Place → Refusal → Type 0
IsSilencesRefusal a s w place r =
    (position : ℕ) × IsFirstRefused a s w position r.kind × (place ≡ places.Silences)
    × (r.pointer ≡ origin_pointer (origin_is.Silence position))
