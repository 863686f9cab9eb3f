use Rattle.std.proofs.Common.{◌≡◌, ℕ, ◌++◌, ◌∷◌, [], ◌&&◌, nat_lt, if◌then◌else◌}
use Rattle.am_alerts.specs.AlertLabels.{flag}
use Rattle.am_alerts.specs.AlertLists.{list_at}
use Rattle.am_alerts.proofs.alert_lists.push_where.Given as goal

abbrev pub invariant-loop-i : goal.invariant-loop-i
invariant-loop-i g l =
    (k : ℕ) → list_at l.lists k
    ≡ (if nat_lt k l.i && flag l.among k then list_at l.initial.lists k ++ l.item ∷ []
    else list_at l.initial.lists k)
