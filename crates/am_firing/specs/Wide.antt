-- Inhibition rules by which one firing alert inhibits most of the others.
use Rattle.std.specs.Prelude.{ℕ, ◌-◌, ◌*◌, List, length, map, count_by, Bool, ◌&&◌, ◌==◌, nat_le}
use Rattle.std.specs.Prelude.{Option}
use Rattle.std.specs.List.{list_all, filter, find, enumerate_from}
use Rattle.am_universe.specs.LabelSet.{LabelMap, value_of}
use Rattle.am_config.specs.ConfigFile.{Rule}
use Rattle.am_eval.specs.Inhibition.{inhibits}
use Rattle.am_report_texts.specs.EachOnce.{each_once}
use Rattle.am_firing.specs.declared.limits.TheConstants.{FEWEST_INHIBITED}

-- How many alerts each alert inhibits by a rule, alert by alert. No alert inhibits itself.
-- Source: Alertmanager configuration reference 0.25, "<inhibit_rule>".
-- Example: if the rule goes from `critical` to `warning` and has no `equal`, then for a critical
-- alert and two warnings the numbers are 2, 0 and 0.
abbrev pub inhibited_counts : Rule → List LabelMap → List ℕ
inhibited_counts rule alerts = map (λ alert. count_by (inhibits rule alert) alerts) alerts

-- One of some alerts inhibits many: at least `FEWEST_INHIBITED`, and at least half of the others.
-- And none of them inhibits more. `counts` has how many each of them inhibits.
-- Source: own choice.
-- Example: of 21 alerts 20 are others, so 10 are many of them.
abbrev pub is_many : List ℕ → ℕ → Bool
is_many counts inhibited =
    nat_le FEWEST_INHIBITED inhibited && nat_le (length counts - 1) (2 * inhibited)

abbrev pub is_most : List ℕ → ℕ → Bool
is_most counts inhibited = list_all (λ other. nat_le other inhibited) counts

-- The alert that inhibits the most, if these are many: its position, and how many it inhibits. Of
-- several that inhibit equally many it is the first.
-- Source: own choice.
-- Example: if five alerts inhibit nothing, and the sixth and the seventh inhibit 12 of the 20
-- others, it is the one at 5, with 12.
abbrev pub widest : List ℕ → Option (ℕ × ℕ)
widest counts =
    find (λ found. is_many counts found.1 && is_most counts found.1) (enumerate_from 0 counts)

-- The labels in `equal` that an alert lacks, each once. In them each alert that it inhibits has the
-- same value, because that alert lacks them too.
-- Source: Alertmanager configuration reference 0.25, "<inhibit_rule>": a missing label and a label
-- with an empty value are the same thing.
-- Example: for `equal` with `cluster`, `team` and `cluster`, `{team="db"}` lacks `cluster`.
abbrev pub lacks : LabelMap → List ℕ → Bool
lacks alert name = length (value_of alert name) == 0

abbrev pub lacked_names : Rule → LabelMap → List (List ℕ)
lacked_names rule alert = each_once (filter (lacks alert) rule.equal)
