-- The outcomes of the alerts of alerting rules that count, and why there are none. (This project's
-- own.)
use Rattle.std.specs.Prelude.{◌≡◌, ◌⊎◌, ℕ, List, [], map, Option, Some, option_map, Contains}
use Rattle.am_universe.specs.declared.kind.Kind.TheVariants as kinds
use Rattle.am_universe.specs.declared.place.Place.{Place}
use Rattle.am_universe.specs.declared.place.Place.TheVariants as places
use Rattle.am_universe.specs.Universe.{Label}
use Rattle.am_labels.specs.Matcher.{Matcher}
use Rattle.am_labels.specs.Space.{Space}
use Rattle.am_json.specs.Pointer.{Refusal, refusal_here}
use Rattle.am_alerting_rules.specs.RulesFile.{AlertingRule}
use Rattle.am_classes.specs.declared.alphabet.Alphabet.{Alphabet}
use Rattle.am_every_alert.specs.Deciding.{space_of}
use Rattle.am_outcomes.specs.Configurations.{Configurations, tried_of}
use Rattle.am_outcomes.specs.Ways.{HaveManyWays}
use Rattle.am_rule_outcomes.specs.Narrowing.{narrowed, rule_narrowing}
use Rattle.am_rule_outcomes.specs.Narrowed.{Narrowed, narrowed_outcomes}
use Rattle.am_reports.specs.RoutingLabels.{labels_of_routes}
use Rattle.am_reports.specs.CutOff.{IsCutOff, routes_file}
use Rattle.am_reports.specs.Made.{StandsForAll, IsDeclaredRefusal, IsMadeRefusal, AreDeclaredWhole}

-- The outcomes of rules are found over a universe that stands for every alert, and is narrowed to
-- the alerts of each rule.
pub record AreFoundFor (a : Alphabet) (lists : List (List Matcher)) (k : Configurations)
    (rules : List AlertingRule) (found : List (Option Narrowed)) : Type 0 where
  pub labels : List Label
  pub stands : StandsForAll a lists k labels
  pub are : found ≡ map (option_map (narrowed_outcomes (space_of lists labels) k))
      (map (rule_narrowing a (labels_of_routes k lists) labels) rules)

-- A universe can be made, but for the alerts of some rule there are more ways through the routes,
-- and then through the silences, than there is room for.
-- Source: own choice.
-- Example: if there are too many for all alerts, there are as many for those of a rule that sets no
-- label, unless the routes ask about `alertname`.
pub record TooManyWaysForRule (a : Alphabet) (lists : List (List Matcher)) (k : Configurations)
    (rules : List AlertingRule) (r : Refusal) : Type 0 where
  pub labels : List Label
  pub stands : StandsForAll a lists k labels
  pub rule : AlertingRule
  pub one : Contains rules rule
  pub kept : List (Option ℕ)
  pub narrows : rule_narrowing a (labels_of_routes k lists) labels rule ≡ Some kept
  pub many : HaveManyWays (narrowed (space_of lists labels) kept) (tried_of k)
  pub refusal : r ≡ refusal_here kinds.Limit

-- What is said is refused at this place for a label that the universe file declares; or no such
-- label lacks a value, and no universe can be made, or there are too many ways for a rule, or the
-- search for them was cut off.
-- Source: own choice.
-- Example: if the universe file lacks a value of a label, and there is no room for the labels that
-- the routes ask about, the refusal is `incomplete`.
abbrev pub IsRulesRefusal :
    Alphabet → Space → Configurations → List AlertingRule → Place → Refusal → Type 0
IsRulesRefusal a s k rules place r =
    IsDeclaredRefusal a s k place r
    ⊎ (AreDeclaredWhole a s k s.labels
    × (IsMadeRefusal a s.impossible k place r
    ⊎ (((place ≡ places.Universe) × TooManyWaysForRule a s.impossible k rules r)
    ⊎ IsCutOff (routes_file k) [] place r)))
