-- The file of alerting rules of a call, if there is one. (This project's own.)
use Rattle.std.specs.Prelude.{◌≡◌, ℕ, List, Option, Some, None}
use Rattle.am_universe.specs.declared.place.Place.TheVariants as places
use Rattle.am_json.specs.Pointer.{Refusal}
use Rattle.am_alerting_rules.specs.RulesFile.{AlertingRule, FileSaysRules}
use Rattle.am_alerting_rules.specs.RulesForm.{IsFirstFaultOfRulesFile}
use Rattle.am_files.specs.Faults.{Stage}

-- What a file says of alerting rules, if there is one. Without a file nothing is known of them.
-- Source: own choice.
-- Example: a file with no groups says that there are no rules, which is not the same as no file.
abbrev pub SaysRulesIfAny : Option (List ℕ) → Option (List AlertingRule) → Type 0
SaysRulesIfAny None rules = rules ≡ None
SaysRulesIfAny (Some bytes) rules =
    (said : List AlertingRule) × (rules ≡ Some said) × FileSaysRules bytes said

-- Why the bytes of the file are refused, if there is one; and its stage.
abbrev pub RulesRefusedFor : Option (List ℕ) → Refusal → Type 0
RulesRefusedFor None r = ⊥
RulesRefusedFor (Some bytes) r = IsFirstFaultOfRulesFile bytes r

abbrev pub rules_stage : Option (List ℕ) → Stage
rules_stage file = record {
  place = places.Rules;
  accepts = (rules : Option (List AlertingRule)) × SaysRulesIfAny file rules;
  refuses = RulesRefusedFor file;
}
