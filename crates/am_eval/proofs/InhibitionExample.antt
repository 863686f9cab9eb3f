-- The labels of the alert that fires in the example of inhibition.
use Rattle.std.proofs.Common.{◌≡◌, ℕ, List, [], ◌∷◌, codes, ap, unwrap_or}
use Rattle.std.specs.FinMap.{get-from_entries}
use Rattle.std.proofs.lemmas.Cmp.{nat_list_cmp_total}
use Rattle.am_universe.specs.LabelSet.{value_of}
use Rattle.am_eval.specs.InhibitionExample.{team_db_critical}

abbrev labels : List (List ℕ × List ℕ)
labels = (codes "severity", codes "critical") ∷ (codes "team", codes "db") ∷ []

pub firing_severity : value_of team_db_critical (codes "severity") ≡ codes "critical"
firing_severity =
    ap (λ o. unwrap_or o []) (get-from_entries nat_list_cmp_total labels (codes "severity"))

pub firing_team : value_of team_db_critical (codes "team") ≡ codes "db"
firing_team = ap (λ o. unwrap_or o []) (get-from_entries nat_list_cmp_total labels (codes "team"))

pub firing_region : value_of team_db_critical (codes "region") ≡ []
firing_region =
    ap (λ o. unwrap_or o []) (get-from_entries nat_list_cmp_total labels (codes "region"))
