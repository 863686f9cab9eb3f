-- What the worked example of an export of alerts says.
use Rattle.std.proofs.Common.{List, [], ap, arith, codes, false, inr, is_some, refl, sym, ℕ, ◌∷◌}
use Rattle.std.proofs.Common.{◌≡◌}
use Rattle.std.proofs.lemmas.Cmp.{nat_list_cmp_total}
use Rattle.std.specs.Cmp.Lexicographic.{slice_cmp}
use Rattle.std.specs.FinMap.{contains_key, empty, empty_of_len, get-empty, insert, len, len-empty}
use Rattle.std.specs.FinMap.{len-remove, remove}
use Rattle.std.specs.Ordering.{nat_cmp}
use Rattle.serde_json.specs.Data.{string, no_members, member}
use Rattle.am_universe.specs.LabelSet.{LabelMap}
use Rattle.am_list_files.specs.AlertsFile.{SaysAlerts}
use Rattle.am_list_files.specs.AlertsExample.{alert_example, alerts_example, example_alerts}

abbrev none_there : LabelMap
none_there = empty

-- removing a label from the empty label set changes nothing
none_left : (name : List ℕ) → none_there ≡ remove none_there name
none_left name =
    let missing : contains_key none_there name ≡ false =
    ap is_some (get-empty (slice_cmp nat_cmp) name) in
    let left : len (remove none_there name) ≡ 0 =
    rw (len-remove nat_list_cmp_total none_there name, missing)
    (len-empty (slice_cmp nat_cmp) (List ℕ)) in
    sym (empty_of_len (remove none_there name) left)

pub says : SaysAlerts alerts_example example_alerts
says = inr (record {
  items = alert_example ∷ [];
  is_array = refl;
  few = omega arith;
  each = (
    record {
      members = member (codes "region") (string [])
          (member (codes "team") (string (codes "db")) no_members);
      has_labels = refl;
      few = omega arith;
      texts = (codes "region", []) ∷ (codes "team", codes "db") ∷ [];
      each = ((refl, λ e. cc, refl), ((refl, λ e. cc, refl), tt));
      labels = ap (λ (s : LabelMap). insert s (codes "team") (codes "db"))
          (none_left (codes "region"));
    },
    tt,
  );
})
