use Rattle.std.proofs.Common.{[], map, drop}
use Rattle.serde_json.specs.View.{view}
use Rattle.am_universe.specs.UniverseView.{texts_of}
use Rattle.am_json.specs.Reading.{read_items}
use Rattle.am_list_files.specs.UniverseForm.{next_value_form}
use Rattle.am_list_files.specs.SeenValues.{AreSeen}
use Rattle.am_json.proofs.Readings.{Leads}
use Rattle.am_list_files.proofs.universe_file.read_each_value.Given as goal

-- Reading the values that are left, after those so far, gives what reading all values gives. Those
-- so far were seen.
abbrev pub invariant-loop-item : goal.invariant-loop-item
invariant-loop-item l = record {
  leads : Leads (read_items next_value_form (texts_of l.values.items)
      (map view (drop l.item-index l.items))) (read_items next_value_form [] (map view l.items));
  seen : AreSeen l.seen (texts_of l.values.items);
}
