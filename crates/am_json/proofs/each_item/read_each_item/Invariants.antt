use Rattle.std.proofs.Common.{◌≡◌, [], length, map, drop}
use Rattle.std.specs.Fn.{FnReturnsAt}
use Rattle.serde_json.specs.Data.{Data}
use Rattle.serde_json.specs.View.{view}
use Rattle.am_json.specs.Reading.{Gives, Reading, read_items}
use Rattle.am_json.proofs.Readings.{Leads}
use Rattle.am_json.proofs.each_item.read_each_item.Given as goal

-- reading the items that are left, after those so far, gives what reading all items gives
abbrev pub invariant-loop-item : goal.invariant-loop-item
invariant-loop-item g l = record {
  leads : (reading : Data → Reading g.row.T.Denot)
      → ((value : _) (found : _) → FnReturnsAt g.F.Fn l.read value found
      → Gives (λ x. x) found (reading (view value)))
      → Leads (read_items (λ _ d. reading d) l.all.items (map view (drop l.item-index l.items)))
      (read_items (λ _ d. reading d) [] (map view l.items));
  count : length l.all.items ≡ l.item-index;
}
