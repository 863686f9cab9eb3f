-- The lines of what is found, as it is kept in memory.
use Rattle.std.specs.Prelude.{◌≡◌, List, ◌++◌, length, map, Option, IfSome, option_map}
use Rattle.std.specs.List.{AllByRecursion, AllZip}
use Rattle.am_universe.specs.LabelSet.{LabelMap}
use Rattle.am_universe.specs.Universe.{sizes}
use Rattle.am_eval.specs.World.{World}
use Rattle.am_firing.specs.Reach.{reached_view}
use Rattle.am_report_texts.specs.Line.{Line}
use Rattle.am_lint.specs.FoundView.{IsShown, said_of}
use Rattle.am_lint.specs.LintLines.{report_lines}
use Rattle.am_idle.specs.RuleLines.{HasPositionsIfAny, rule_lines}
use Rattle.am_idle.specs.SilenceLines.{silence_lines}
use Rattle.am_unseen.specs.UnseenLines.{unseen_lines}
use Rattle.am_reports.specs.LintLines.{each_lines, alert_lines, reached_lines}
use Rattle.am_reports.specs.declared.linting.Findings.{Findings}

-- What is found is about the routes, the receivers, the rules and the silences of a world.
pub record AreFindings (w : World) (found : Findings) : Type 0 where
  pub shown : AllByRecursion (IsShown (sizes found.routes.universe) w.config)
      found.routes.routes.items
  pub receivers : length found.routes.receivers.items ≡ length w.config.receivers
  pub rules : length found.rules.items ≡ length w.config.rules
  pub positions : AllZip HasPositionsIfAny w.config.rules found.rules.items
  pub silences : length found.silences.items ≡ length w.silences
  pub reached_receivers : IfSome found.reached (λ reached.
      length reached.receivers.items ≡ length w.config.receivers)
  pub reached_sides : IfSome found.reached (λ reached.
      length reached.sides.items ≡ length w.config.rules)

-- The lines of routes and receivers, of rules, of silences, of what the alerts of alerting rules do
-- not reach, of what the alerts of the file show, and of what neither has, one behind the other.
abbrev pub found_lines :
    Findings → Option (List LabelMap) → List LabelMap → World → List Line
found_lines found alerts sets w =
    let said = map said_of found.routes.routes.items in
    let receivers = found.routes.receivers.items in
    let rules = found.rules.items in
    let silences = found.silences.items in
    report_lines found.routes.universe w.config said receivers
    ++ (each_lines rule_lines w.config.rules rules
    ++ (each_lines silence_lines w.silences silences
    ++ (reached_lines w.config (option_map reached_view found.reached) said receivers rules
    ++ (alert_lines w alerts said receivers rules silences
    ++ unseen_lines w sets))))
