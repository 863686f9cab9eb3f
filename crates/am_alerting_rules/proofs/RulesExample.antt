-- What the worked example of a rules file says, and which alerts its first rule has.
use Rattle.std.proofs.Common.{◌≡◌, List, None, Some, [], ap, arith, codes, inl, inr, refl, sym}
use Rattle.std.proofs.Common.{unwrap_or, ℕ, ◌∙◌, ◌∷◌}
use Rattle.std.specs.Cmp.Lexicographic.{slice_cmp}
use Rattle.std.specs.FinMap.{find, from_entries, get-from_entries}
use Rattle.std.specs.Ordering.{nat_cmp}
use Rattle.std.proofs.lemmas.Cmp.{nat_list_cmp_total}
use Rattle.serde_json.specs.Data.{string}
use Rattle.am_universe.specs.LabelSet.{value_of}
use Rattle.am_json.specs.FormExamples.{members_of}
use Rattle.am_alerting_rules.specs.RulesFile.{AlertingRule, SaysAlertingRule, SaysGroup, SaysRules}
use Rattle.am_alerting_rules.specs.RuleAlerts.{IsAlertOfRule}
use Rattle.am_alerting_rules.specs.RulesExample.{db_group, disk_full, disk_full_rule, example_alert}
use Rattle.am_alerting_rules.specs.RulesExample.{example_rules, node_group, other_alert}
use Rattle.am_alerting_rules.specs.RulesExample.{postgres_down, postgres_down_rule, recording_rule}
use Rattle.am_alerting_rules.specs.RulesExample.{rules_example}

-- ---- What the example says.

-- the rule without the labels of its group
abbrev own_disk_full : AlertingRule
own_disk_full = record disk_full {
  labels = (codes "alertname", codes "X") ∷ (codes "region", [])
      ∷ (codes "severity", codes "warning") ∷ (codes "team", codes "{{ $labels.team }}") ∷ [];
}

says_disk_full : SaysAlertingRule (codes "node") disk_full_rule own_disk_full
says_disk_full = record {
  name = refl;
  some = λ e. cc;
  of_group = refl;
  labels = inr (record {
    members = members_of
        ((codes "alertname", string (codes "X")) ∷ (codes "region", string [])
        ∷ (codes "severity", string (codes "warning"))
        ∷ (codes "team", string (codes "{{ $labels.team }}")) ∷ []);
    has_labels = refl;
    few = omega arith;
    each = (
      (refl, (λ e. cc), refl),
      ((refl, (λ e. cc), refl), ((refl, (λ e. cc), refl), ((refl, (λ e. cc), refl), tt))),
    );
  });
}

says_postgres_down : SaysAlertingRule (codes "db") postgres_down_rule postgres_down
says_postgres_down = record {
  name = refl;
  some = λ e. cc;
  of_group = refl;
  labels = inl (refl, refl);
}

says_node : SaysGroup node_group (disk_full ∷ [])
says_node = record {
  name = codes "node";
  named = refl;
  labels = (codes "severity", codes "info") ∷ (codes "site", codes "a") ∷ [];
  says_labels = inr (record {
    members = members_of
        ((codes "severity", string (codes "info")) ∷ (codes "site", string (codes "a")) ∷ []);
    has_labels = refl;
    few = omega arith;
    each = ((refl, (λ e. cc), refl), ((refl, (λ e. cc), refl), tt));
  });
  items = recording_rule ∷ disk_full_rule ∷ [];
  is_array = inr refl;
  found = None ∷ Some own_disk_full ∷ [];
  each = (
    (members_of ((codes "record", string (codes "job:up:sum")) ∷ []), refl, refl),
    (says_disk_full, tt),
  );
  are = refl;
}

says_db : SaysGroup db_group (postgres_down ∷ [])
says_db = record {
  name = codes "db";
  named = refl;
  labels = [];
  says_labels = inl (refl, refl);
  items = postgres_down_rule ∷ [];
  is_array = inr refl;
  found = Some postgres_down ∷ [];
  each = (says_postgres_down, tt);
  are = refl;
}

pub says : SaysRules rules_example example_rules
says = record {
  items = node_group ∷ db_group ∷ [];
  is_array = refl;
  few_groups = omega arith;
  groups = (disk_full ∷ []) ∷ (postgres_down ∷ []) ∷ [];
  each = (says_node, (says_db, tt));
  are = refl;
  few = omega arith;
}

-- ---- Its alerts.

-- the value of a label in a set that is made of a list
value_in : (labels : List (List ℕ × List ℕ)) (name : List ℕ)
    → value_of (from_entries labels) name ≡ unwrap_or (find (slice_cmp nat_cmp) name labels) []
value_in labels name = ap (λ o. unwrap_or o []) (get-from_entries nat_list_cmp_total labels name)

pub alert : IsAlertOfRule disk_full example_alert
alert =
    let value = value_in
    ((codes "alertname", codes "DiskFull") ∷ (codes "severity", codes "warning")
    ∷ (codes "site", codes "a") ∷ (codes "team", codes "db") ∷ []) in (
      value (codes "alertname"),
      (value (codes "region"), (value (codes "severity"), (value (codes "site"), tt))),
    )

pub no_alert : ¬ IsAlertOfRule disk_full other_alert
no_alert is =
    let region = value_in
    ((codes "alertname", codes "DiskFull") ∷ (codes "region", codes "eu")
    ∷ (codes "severity", codes "warning") ∷ (codes "site", codes "a")
    ∷ (codes "team", codes "db") ∷ []) (codes "region") in
    let both : codes "eu" ≡ [] = sym region ∙ is.1.0 in absurd cc
