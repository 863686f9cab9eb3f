use Rattle.std.proofs.Common.{◌≡◌, [], length, map, drop}
use Rattle.serde_json.specs.View.{view}
use Rattle.am_json.specs.Reading.{read_items}
use Rattle.am_list_files.specs.UniverseForm.{next_label_form}
use Rattle.am_json.proofs.Readings.{Leads}
use Rattle.am_list_files.proofs.universe_file.read_each_label.Given as goal

-- reading the labels that are left, after those so far, gives what reading all labels gives
abbrev pub invariant-loop-item : goal.invariant-loop-item
invariant-loop-item l = record {
  leads : Leads (read_items next_label_form l.universe (map view (drop l.item-index l.items)))
      (read_items next_label_form [] (map view l.items));
  count : length l.universe ≡ l.item-index;
}
