use Rattle.std.proofs.Common.{map, sym, ap, ◌∙◌}
use Rattle.serde_json.specs.View.{view}
use Rattle.am_alerts.proofs.Ids.{items_are}
use Rattle.am_alerts.proofs.intervals.items_in.Goals as goal

pub returns-in-Some : goal.returns-in-Some
returns-in-Some c =
    ap (map view) c.as_slice.ensures.value
    ∙ sym (items_are (view c.args.value.now) c.in-Some.items.now.items c.in-Some.ensures)
