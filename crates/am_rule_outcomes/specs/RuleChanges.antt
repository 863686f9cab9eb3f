-- What changes for the alerts of rules between two configurations. (This project's own.)
use Rattle.std.specs.Prelude.{ℕ, List, map, Some}
use Rattle.std.specs.List.{flat_map}
use Rattle.am_config.specs.ConfigFile.{Configuration}
use Rattle.am_outcomes.specs.Changes.{ShownChange, changes_of}
use Rattle.am_alerting_rules.specs.RulesFile.{AlertingRule}

-- A change among the outcomes of a rule is shown with the group of the rule.
abbrev pub rule_change :
    AlertingRule → List (List ℕ) × List (List ℕ × List ℕ) → ShownChange
rule_change r change = record { group = Some r.group; lists = change.0; labels = change.1 }

-- The changes among the outcomes of a rule; and those of each of some rules, rule by rule.
-- Source: own choice.
-- Example: if all alerts go to `a` under the old configuration and to `b` under the new one, there
-- is one change for each rule that has alerts that count.
abbrev pub changes_of_rule : Configuration → Configuration
    → AlertingRule × List (List (List ℕ) × List (List ℕ × List ℕ)) → List ShownChange
changes_of_rule old new rule = map (rule_change rule.0) (changes_of old new rule.1)

abbrev pub changes_of_rules : Configuration → Configuration
    → List (AlertingRule × List (List (List ℕ) × List (List ℕ × List ℕ))) → List ShownChange
changes_of_rules old new rules = flat_map (changes_of_rule old new) rules
