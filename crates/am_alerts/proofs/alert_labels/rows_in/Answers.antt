use Rattle.std.proofs.Common.{length, get_or, refl, sym, subst, arith, ◌<◌}
use Rattle.std.proofs.lemmas.Option.{slice_get-get_or}
use Rattle.am_alerts.specs.declared.alert_labels.Row.{Row}
use Rattle.am_alerts.specs.AlertLabels.{Tile}
use Rattle.am_alerts.proofs.LabelRows.{blank, row_behind, label_before}
use Rattle.am_alerts.proofs.alert_labels.rows_in.Goals as goal

pub loop-start-preserved : goal.loop-start-preserved
loop-start-preserved c =
    let labels = c.args.labels.now in
    let k = c.loop-start.start in
    let end = c.row_end-end.result in
    let l = get_or labels k blank in
    let lt : k < length labels = omega (arith, c.loop-start-test.true, c.requires.range.1) in
    let row : Row = record { end = end; place = l.place; first = l.alert } in
    record {
      within = c.row_end-end.ensures.within.1;
      rows = subst (Tile labels c.args.range.0 end) (sym c.in_ok-push.ensures.items)
          (row_behind labels c.args.range.0 k c.loop-start.rows.items row c.loop-start.invariant.rows
          (omega (arith, c.row_end-end.ensures.within.0))
          (label_before labels k end l.place l (slice_get-get_or labels k blank lt) refl c.row_end-end.ensures.places));
    }
