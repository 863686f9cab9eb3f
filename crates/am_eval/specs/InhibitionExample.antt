-- A worked example of inhibition: worlds with one firing alert and one or two rules.
use Rattle.std.specs.Prelude.{ℕ, List, [], ◌∷◌, None, codes}
use Rattle.std.specs.FinMap.{from_entries}
use Rattle.am_universe.specs.LabelSet.{LabelMap}
use Rattle.am_labels.specs.Matcher.{Matcher}
use Rattle.am_labels.specs.declared.op.Op.TheVariants.{Equal, NotEqual}
use Rattle.am_config.specs.ConfigFile.{Rule, config_with}
use Rattle.am_eval.specs.RoutingExamples.{worked, severity_critical}
use Rattle.am_eval.specs.World.{World}

-- The firing alert `{severity="critical",team="db"}`.
abbrev pub team_db_critical : LabelMap
team_db_critical =
    from_entries
    ((codes "severity", codes "critical") ∷ (codes "team", codes "db") ∷ [])

-- The matchers `severity="warning"` and `severity!=""`, which asks for any severity.
abbrev pub severity_warning : Matcher
severity_warning = record { name = codes "severity"; op = Equal; value = codes "warning" }

abbrev pub severity_any : Matcher
severity_any = record { name = codes "severity"; op = NotEqual; value = [] }

-- A rule with one matcher on each side, and with one label in `equal`.
abbrev pub example_rule : Matcher → Matcher → List ℕ → Rule
example_rule source target label =
    record { source = source ∷ []; target = target ∷ []; equal = label ∷ [] }

-- The world of that alert and some rules, and the world of that alert and one rule.
abbrev pub world_of_rules : List Rule → World
world_of_rules rules = record {
  config = config_with worked.receivers worked.root rules;
  silences = [];
  alerts = team_db_critical ∷ [];
  instant = None;
}

abbrev pub inhibiting_world : Matcher → Matcher → List ℕ → World
inhibiting_world source target label = world_of_rules (example_rule source target label ∷ [])

-- The world of that alert and two rules for the same team: from `warning` to `critical`, and from
-- `critical` to `warning`.
abbrev pub two_rules_world : World
two_rules_world =
    world_of_rules
    (example_rule severity_warning severity_critical (codes "team")
    ∷ example_rule severity_critical severity_warning (codes "team") ∷ [])
