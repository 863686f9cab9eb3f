use Rattle.std.proofs.Common.{◌≡◌, take, map}
use Rattle.serde_json.specs.View.{view}
use Rattle.am_report_texts.proofs.lines_json.array.Given as goal

abbrev pub invariant-loop-item : goal.invariant-loop-item
invariant-loop-item g l =
    map view l.values.items ≡ map g.T.Item.item_data (take l.item-index l.items)
