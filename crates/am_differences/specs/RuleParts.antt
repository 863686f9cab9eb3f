-- Inhibition rules, as parts of a file.
use Rattle.std.specs.Prelude.{ℕ, List, [], ◌∷◌, ◌++◌, map, fold, Bool, not, ◌&&◌, unwrap_or, codes}
use Rattle.std.specs.Prelude.{if◌then◌else◌, IsTrue}
use Rattle.std.specs.List.{filter, list_any, list_all, zip, AllByRecursion}
use Rattle.serde_json.specs.Data.{Data, null}
use Rattle.am_universe.specs.Text.{same_text}
use Rattle.am_labels.specs.Matcher.{Matcher, operator_text}
use Rattle.am_json.specs.Json.{field}
use Rattle.am_config.specs.ConfigFile.{Rule}
use Rattle.am_config.specs.WholeConfig.{WholeConfiguration}
use Rattle.am_differences.specs.SameValue.{same_value}
use Rattle.am_differences.specs.Parts.{rule_values}

-- A rule, with the value of its field `name`, which is `null` if it has none.
abbrev pub NamedRule : Type 0
NamedRule = Rule × Data

abbrev pub rule_name : Data → Data
rule_name d = unwrap_or (field (codes "name") d) null

abbrev pub named_rules : WholeConfiguration → List NamedRule
named_rules w = zip w.config.rules (map rule_name (rule_values w.rest))

-- Matchers are the same if they have the same label, operator and value. Lists of matchers, or of
-- the names in `equal`, are the same if each of one is in the other.
abbrev pub same_matcher : Matcher → Matcher → Bool
same_matcher m n =
    same_text m.name n.name
    && (same_text (operator_text m.op) (operator_text n.op) && same_text m.value n.value)

abbrev pub has_matchers : List Matcher → List Matcher → Bool
has_matchers ms ns = list_all (λ n. list_any (same_matcher n) ms) ns

abbrev pub has_names : List (List ℕ) → List (List ℕ) → Bool
has_names names others = list_all (λ other. list_any (same_text other) names) others

-- Rules are the same if they have the same matchers on each side, the same labels in `equal`, and
-- the same name.
-- Source: Alertmanager configuration reference 0.25, "<inhibit_rule>": all matchers of a side have
-- to be met, and the order of matchers and labels makes no difference.
-- Example: `{"source_match": {"a": "b"}}` and `{"source_matchers": ["a=b"], "equal": []}` are the
-- same.
abbrev pub same_matchers : List Matcher → List Matcher → Bool
same_matchers ms ns = has_matchers ms ns && has_matchers ns ms

abbrev pub same_rule : NamedRule → NamedRule → Bool
same_rule r t =
    (same_matchers r.0.source t.0.source && same_matchers r.0.target t.0.target)
    && ((has_names r.0.equal t.0.equal && has_names t.0.equal r.0.equal) && same_value r.1 t.1)

abbrev pub has_rule : List NamedRule → NamedRule → Bool
has_rule rules rule = list_any (same_rule rule) rules

-- Two files have the same rules: each rule of one is the same as some rule of the other.
pub record HaveSameRules (olds news : List NamedRule) : Type 0 where
  pub olds_in_new : AllByRecursion (λ r. IsTrue (has_rule news r)) olds
  pub news_in_old : AllByRecursion (λ r. IsTrue (has_rule olds r)) news

-- The rules that are only in one of two files, each once.
-- Source: own choice.
-- Example: of the rules `a`, `b`, `c` and `c`, only `a` and `c` are not among `b` and `d`.
abbrev pub with_rule : List NamedRule → NamedRule → List NamedRule
with_rule rules rule = if has_rule rules rule then rules else rules ++ rule ∷ []

abbrev pub rules_only_in : List NamedRule → List NamedRule → List NamedRule
rules_only_in rules others = fold with_rule [] (filter (λ r. not (has_rule others r)) rules)
