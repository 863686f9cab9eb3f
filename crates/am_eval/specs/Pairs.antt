-- Pairs of an inhibition rule and a firing alert that its source side matches.
use Rattle.std.specs.Prelude.{ℕ, List, map}
use Rattle.std.specs.List.{flat_map, filter, enumerate_from}
use Rattle.am_universe.specs.LabelSet.{LabelMap}
use Rattle.am_labels.specs.Matcher.{all_hold}
use Rattle.am_config.specs.ConfigFile.{Rule}
use Rattle.am_eval.specs.declared.pair.Pair.{Pair}

-- The pairs of rules and firing alerts: each rule with each alert that its source side matches, by
-- their positions, rule by rule, and for each rule alert by alert. A pair also says whether the
-- target side matches that alert too.
-- Source: own choice; the sides are those of the Alertmanager configuration reference 0.25,
-- "<inhibit_rule>".
-- Example: let the source side of the first rule match the second of two alerts alone, and let that
-- of the second rule match both. Then the pairs are 0 1, 1 0 and 1 1.
abbrev pub pair_of : ℕ × Rule → ℕ × LabelMap → Pair
pair_of rule alert =
    record { rule = rule.0; alert = alert.0; both = all_hold alert.1 rule.1.target }

abbrev pub pairs_of_rule : List LabelMap → ℕ × Rule → List Pair
pairs_of_rule alerts rule =
    map (pair_of rule)
    (filter (λ alert. all_hold alert.1 rule.1.source) (enumerate_from 0 alerts))

abbrev pub pairs_of : List Rule → List LabelMap → List Pair
pairs_of rules alerts = flat_map (pairs_of_rule alerts) (enumerate_from 0 rules)
