use Rattle.std.proofs.Common.{◌≡◌, take, map, string_bytes}
use Rattle.am_labels.specs.Row.{row_of}
use Rattle.am_eval.specs.Conditions.{same_value}
use Rattle.am_plans.proofs.pair_lists.rows_of_values.Given as goal

abbrev pub invariant-loop-name : goal.invariant-loop-name
invariant-loop-name l =
    l.rows.items
    ≡ map (λ name. row_of l.universe (same_value l.alert (string_bytes name)))
    (take l.name-index l.names)
