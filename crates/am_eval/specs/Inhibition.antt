-- Inhibition: which alerts are muted while others fire. An alert is its label set.
use Rattle.std.specs.Prelude.{ℕ, List, Bool, false, not, ◌&&◌, map, slice_get, Option, Some, None}
use Rattle.std.specs.List.{flat_map, list_all, list_any, enumerate_from}
use Rattle.am_universe.specs.LabelSet.{LabelMap, value_of}
use Rattle.am_universe.specs.Text.{same_text}
use Rattle.am_labels.specs.Matcher.{all_hold}
use Rattle.am_config.specs.ConfigFile.{Rule}
use Rattle.am_eval.specs.declared.pair.Pair.{Pair}
use Rattle.am_eval.specs.World.{World}
use Rattle.am_eval.specs.Silencing.{positions_where}

-- Two alerts have the same value for each of these labels.
-- Source: Alertmanager configuration reference 0.25, "<inhibit_rule>": `equal`; a missing label and
-- a label with an empty value are the same thing.
-- Example: `{team="db"}` and `{team="db",severity="warning"}` have the same value for `team`, and
-- for `region`, which both lack, but not for `severity`.
abbrev pub have_equal : List (List ℕ) → LabelMap → LabelMap → Bool
have_equal names a s = list_all (λ name. same_text (value_of a name) (value_of s name)) names

-- An alert is two-sided for a rule: both sides of the rule match it. A side without matchers
-- matches every alert.
-- Source: Alertmanager configuration reference 0.25, "<inhibit_rule>".
-- Example: if both sides ask for the team `db`, an alert of that team is two-sided.
abbrev pub is_two_sided : Rule → LabelMap → Bool
is_two_sided rule s = all_hold s rule.source && all_hold s rule.target

-- By a rule, a firing alert inhibits another: the source side matches the firing alert, the target
-- side matches the other, both have the same values for the labels in `equal`, and they are not
-- both two-sided.
-- Source: Alertmanager configuration reference 0.25, "<inhibit_rule>": both have the same values
-- for the names in `equal`, and an alert that matches both sides cannot be inhibited by alerts for
-- which the same is true, itself included.
-- Example: let the source side ask for the severity `critical`, the target side for `warning`, and
-- let `equal` have `team`. Then a critical alert of the team `db` inhibits a warning of that team,
-- and no warning of the team `web`. If both sides ask for any severity, it inhibits neither.
abbrev pub inhibits : Rule → LabelMap → LabelMap → Bool
inhibits rule a s =
    all_hold a rule.source && all_hold s rule.target && have_equal rule.equal a s
    && not (is_two_sided rule a && is_two_sided rule s)

-- An alert is inhibited: by some rule, some firing alert inhibits it. Each alert of the file counts
-- as firing.
-- Source: Alertmanager configuration reference 0.25, "<inhibit_rule>". Own choice: an alert that is
-- silenced or inhibited itself still inhibits others.
-- Example: if no alert fires, or there is no rule, no alert is inhibited.
abbrev pub is_inhibited : World → LabelMap → Bool
is_inhibited w s = list_any (λ rule. list_any (λ a. inhibits rule a s) w.alerts) w.config.rules

-- What inhibits an alert: a rule and a firing alert that inhibits it by this rule, each by its
-- position. They are listed rule by rule, and for each rule alert by alert.
-- Source: own choice.
-- Example: let the first and the third alert inhibit an alert by the second rule, and let there be
-- no others. Then its inhibitors are 1 0 and 1 2.
abbrev pub inhibitors : World → LabelMap → List (ℕ × ℕ)
inhibitors w s =
    flat_map
    (λ rule. map (λ i. (rule.0, i)) (positions_where (λ a. inhibits rule.1 a s) 0 w.alerts))
    (enumerate_from 0 w.config.rules)

-- The same for a pair of a rule and a firing alert, by their positions.
abbrev pub alert_inhibits : LabelMap → Rule → Option LabelMap → Bool
alert_inhibits s rule None = false
alert_inhibits s rule (Some a) = inhibits rule a s

abbrev pub rule_inhibits : LabelMap → Option LabelMap → Option Rule → Bool
rule_inhibits s alert None = false
rule_inhibits s alert (Some rule) = alert_inhibits s rule alert

abbrev pub pair_inhibits : World → LabelMap → Pair → Bool
pair_inhibits w s pair =
    rule_inhibits s (slice_get w.alerts pair.alert) (slice_get w.config.rules pair.rule)
