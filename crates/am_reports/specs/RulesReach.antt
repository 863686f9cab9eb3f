-- What the alerts of alerting rules reach. (This project's own.)
use Rattle.std.specs.Prelude.{◌≡◌, ◌⊎◌, ◌↔◌, ◌==◌, ℕ, List, [], ◌∷◌, length, map, Bool, true, false}
use Rattle.std.specs.Prelude.{Option, Some, None, IsTrue, Contains}
use Rattle.std.specs.List.{AllZip, flat_map, list_any, range_with_len}
use Rattle.am_universe.specs.declared.place.Place.{Place}
use Rattle.am_universe.specs.LabelSet.{LabelMap}
use Rattle.am_labels.specs.Matcher.{Matcher, all_hold}
use Rattle.am_labels.specs.Space.{Space}
use Rattle.am_json.specs.Pointer.{Refusal}
use Rattle.am_list_files.specs.AlertsFile.{labels_of}
use Rattle.am_alerting_rules.specs.RulesFile.{AlertingRule}
use Rattle.am_alerting_rules.specs.RuleAlerts.{fixed_labels}
use Rattle.am_config.specs.ConfigFile.{Configuration, Rule}
use Rattle.am_config.specs.Path.{leads_through}
use Rattle.am_classes.specs.declared.alphabet.Alphabet.{Alphabet}
use Rattle.am_firing.specs.Reach.{Reached}
use Rattle.am_firing.specs.Unreached.{enters, goes_to}
use Rattle.am_outcomes.specs.Configurations.{Ends, Matched}
use Rattle.am_rule_outcomes.specs.Narrowed.{Narrowed}
use Rattle.am_rule_outcomes.specs.RuleOutcomes.{IsRuleAlert}
use Rattle.am_reports.specs.RulesOutcomes.{IsRulesRefusal}

-- Some alert of the rules that counts passes a test.
pub record SomeRuleAlert (a : Alphabet) (s : Space) (rules : List AlertingRule)
    (test : LabelMap → Bool) : Type 0 where
  pub rule : AlertingRule
  pub one : Contains rules rule
  pub alert : LabelMap
  pub is : IsRuleAlert a s rule alert
  pub passes : IsTrue (test alert)

-- It is not known which alerts of the rules a list of matchers matches: no universe is made for it.
-- Source: own choice. Such a list is told by other lines, where that is known.
-- Example: this is so if the list has `team=~"\bdb"`, over Unicode.
abbrev pub IsUnknown : Alphabet → Space → List AlertingRule → List Matcher → Type 0
IsUnknown a s rules ms =
    (place : Place) × (r : Refusal) × IsRulesRefusal a s (Matched ms) rules place r

-- Whether a list of matchers is said to match some alert of the rules that counts: it does, or this
-- is not known; and if not, it matches none.
-- Source: own choice.
-- Example: for the rule `DiskFull` that sets `severity` to `warning`, `severity="critical"` is said
-- to match none, and `team="db"` to match one.
abbrev pub IsMatched : Alphabet → Space → List AlertingRule → List Matcher → Bool → Type 0
IsMatched a s rules ms matched =
    (IsTrue matched → SomeRuleAlert a s rules (λ alert. all_hold alert ms) ⊎ IsUnknown a s rules ms)
    × (matched ≡ false → SomeRuleAlert a s rules (λ alert. all_hold alert ms) → ⊥)

-- The same for both sides of an inhibition rule.
abbrev pub AreSides : Alphabet → Space → List AlertingRule → Rule → Bool × Bool → Type 0
AreSides a s rules rule sides =
    IsMatched a s rules rule.source sides.0 × IsMatched a s rules rule.target sides.1

-- What the alerts of the rules reach that count: whether there is one, which routes one enters, to
-- which receivers one goes, and which sides of inhibition rules match one.
-- Source: own choice.
-- Example: if alerts of the team `db` go to `/0` and all others to `/1`, and the only rule sets
-- `team` to `db`, `/1` is not reached. If another rule does not set `team`, it is.
pub record AreReached (a : Alphabet) (s : Space) (c : Configuration) (rules : List AlertingRule)
    (reached : Reached) : Type 0 where
  pub any : IsTrue reached.is_any ↔ SomeRuleAlert a s rules (λ alert. true)
  pub routes : (path : List ℕ) → IsTrue (reached.entered path)
      ↔ SomeRuleAlert a s rules (enters c path)
  pub receivers : AllZip (λ receiver is. IsTrue is ↔ SomeRuleAlert a s rules (goes_to c receiver))
      (range_with_len 0 (length c.receivers)) reached.receivers
  pub sides : AllZip (AreSides a s rules) c.rules reached.sides

-- The same if rules are known, and else nothing; and why this is refused.
abbrev pub AreReachedIfAny : Alphabet → Space → Configuration → Option (List AlertingRule)
    → Option Reached → Type 0
AreReachedIfAny a s c None reached = reached ≡ None
AreReachedIfAny a s c (Some rules) reached =
    (one : Reached) × (reached ≡ Some one) × AreReached a s c rules one

abbrev pub IsReachRefusal : Alphabet → Space → Configuration → Option (List AlertingRule) → Place
    → Refusal → Type 0
IsReachRefusal a s c None place r = ⊥
IsReachRefusal a s c (Some rules) place r = IsRulesRefusal a s (Ends c) rules place r

-- The label sets that alerting rules fix, if they are known: for each rule, that of an alert of the
-- rule which has no other labels than those that each has.
abbrev pub fixed_sets : Option (List AlertingRule) → List LabelMap
fixed_sets None = []
fixed_sets (Some rules) = map (λ r. labels_of (fixed_labels r)) rules

-- ---- How it is found.

-- The outcomes of all rules, one behind the other.
abbrev pub lists_of : Option Narrowed → List (List (List ℕ))
lists_of None = []
lists_of (Some n) = map (λ outcome. outcome.0) n.outcomes

abbrev pub lists_found : List (Option Narrowed) → List (List (List ℕ))
lists_found found = flat_map lists_of found

-- An outcome that has the receivers of alerts and then their ends: whether such alerts enter a
-- route, and whether they go to a receiver.
abbrev pub enters_by : List ℕ → List (List ℕ) → Bool
enters_by path [] = false
enters_by path (receivers ∷ ends) = list_any (leads_through path) ends

abbrev pub goes_by : ℕ → List (List ℕ) → Bool
goes_by receiver [] = false
goes_by receiver (receivers ∷ ends) = list_any (λ other. other == receiver) receivers
