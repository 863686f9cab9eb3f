-- Label names that a configuration or a silence mentions and no known label set has. Known are
-- those of firing alerts, and those that alerting rules fix. Here each of them is called an alert.
use Rattle.std.specs.Prelude.{ℕ, List, [], ◌∷◌, ◌++◌, map, fold, Option, Bool}
use Rattle.std.specs.Prelude.{if◌then◌else◌}
use Rattle.std.specs.List.{list_any, filter, flat_map, enumerate_from}
use Rattle.std.specs.FinMap.{keys}
use Rattle.am_universe.specs.LabelSet.{LabelMap}
use Rattle.am_universe.specs.Text.{same_text}
use Rattle.am_labels.specs.Matcher.{Matcher}
use Rattle.am_config.specs.ConfigFile.{Rule}
use Rattle.am_eval.specs.World.{World}
use Rattle.am_complete.specs.declared.origin.Origin.{Origin}
use Rattle.am_complete.specs.declared.origin.Origin.TheVariants as origin_is
use Rattle.am_complete.specs.FoundState.{begins}
use Rattle.am_asked.specs.Placed.{placed_in_routes, placed_in_rule}
use Rattle.am_report_texts.specs.EachOnce.{each_once}
use Rattle.am_unseen.specs.Similar.{most_similar}
use Rattle.am_unseen.specs.Unseen.{none_passes, placed_in_silences_left}

-- The names of the labels that alerts have, each once, in the order in which they come first. Those
-- of an alert are in the order of their bytes.
-- Source: own choice.
-- Example: those of `{team="db",job="node"}` and `{env="test",team="web"}` are `job`, `team` and
-- `env`.
abbrev pub seen_names : List LabelMap → List (List ℕ)
seen_names alerts = each_once (flat_map keys alerts)

-- A name is missing among some names: there are names, and it is none of them.
abbrev pub is_missing : List (List ℕ) → List ℕ → Bool
is_missing names name = none_passes (same_text name) names

-- A label name is unseen: alerts have labels, and none of these has the name.
-- Source: own choice: if no alert has a label, nothing can be said of names.
-- Example: if the only alert is `{team="db"}`, `tema` is unseen and `team` is not.
abbrev pub is_unseen_name : List LabelMap → List ℕ → Bool
is_unseen_name alerts name = is_missing (seen_names alerts) name

-- A mention of a label name, with its origin.
abbrev pub Mention : Type 0
Mention = Origin × List ℕ

-- The name of a matcher, with its origin; and those of some matchers.
abbrev pub mention_of : Origin × Matcher → Mention
mention_of placed = (placed.0, placed.1.name)

abbrev pub mentioned_by : List (Origin × Matcher) → List Mention
mentioned_by placed = map mention_of placed

-- Names that are not empty, each with this origin.
abbrev pub mentioned_at : Origin → List (List ℕ) → List Mention
mentioned_at origin names = map (λ name. (origin, name)) (filter begins names)

-- The names that the rule at a position mentions: those of the matchers of its source side, of
-- those of its target side, and those in its `equal`. The empty name is left out.
-- Source: Alertmanager configuration reference 0.25, "<inhibit_rule>".
-- Example: for a rule with the source `severity="page"`, the target `team="db"` and
-- `equal: [cluster]` they are `severity`, `team` and `cluster`.
abbrev pub mentioned_in_rule : ℕ × Rule → List Mention
mentioned_in_rule rule =
    mentioned_by (placed_in_rule rule) ++ mentioned_at (origin_is.Rule rule.0) rule.1.equal

abbrev pub mentioned_in_rules : List Rule → List Mention
mentioned_in_rules rules = flat_map mentioned_in_rule (enumerate_from 0 rules)

-- The label names that a world mentions: those of the matchers of its routes in preorder, then
-- those of its rules, and then those of the matchers of the silences that are not over.
-- Source: own choice.
-- Example: a world with one route, no rule and no silence mentions none.
abbrev pub mentions : World → List Mention
mentions w =
    mentioned_by (placed_in_routes w.config)
    ++ (mentioned_in_rules w.config.rules ++ mentioned_by (placed_in_silences_left w))

-- Mentions with one more at the end, unless there is one of its name; and the first mention of each
-- name, in the order of these.
-- Source: own choice.
-- Example: of `team` at route `/0`, `env` at route `/1` and `team` at rule 0, they are the first
-- two.
abbrev pub with_mention : List Mention → Mention → List Mention
with_mention firsts mention =
    if list_any (λ first. same_text mention.1 first.1) firsts
    then firsts
    else firsts ++ mention ∷ []

abbrev pub first_mentions : List Mention → List Mention
first_mentions all = fold with_mention [] all

-- A label name that is mentioned and that no alert has: where it is mentioned first, and the most
-- similar name that an alert has.
pub record UnseenName : Type 0 where
  pub origin : Origin
  pub name : List ℕ
  pub similar : Option (List ℕ)

-- A mentioned name as one that is none of some names; and those of some mentions that are so.
abbrev pub unseen_name : List (List ℕ) → Mention → UnseenName
unseen_name names mention = record {
  origin = mention.0;
  name = mention.1;
  similar = most_similar mention.1 names;
}

abbrev pub missing_among : List (List ℕ) → List Mention → List UnseenName
missing_among names mentioned =
    map (unseen_name names) (filter (λ mention. is_missing names mention.1) mentioned)

-- The names that a world mentions, each once, that none of its alerts has and no alerting rule
-- fixes. `rules` has the label sets that rules fix.
-- Source: own choice.
-- Example: without alerts and rules there are none.
abbrev pub unseen_names : World → List LabelMap → List UnseenName
unseen_names w rules =
    missing_among (seen_names (w.alerts ++ rules)) (first_mentions (mentions w))
