-- The row is that of a matcher.
use Rattle.std.proofs.Common.{◌∷◌, [], ap}
use Rattle.am_labels.specs.declared.op.Op.TheVariants.{Equal}
use Rattle.am_labels.specs.Matcher.{Matcher}
use Rattle.am_labels.specs.Row.{TruthRow}
use Rattle.am_route_alerts.proofs.hints.hint_at.Goals as goal

pub of_rows-requires : goal.of_rows-requires
of_rows-requires c =
    let m : Matcher = record {
      name = c.name.result.now;
      op = Equal;
      value = c.unwrap_or-text.result.now;
    } in
    record { rows = (m ∷ [], ap (λ (r : TruthRow). r ∷ []) c.in_ok-row.ensures.row) }
