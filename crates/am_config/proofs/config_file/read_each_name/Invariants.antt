use Rattle.std.proofs.Common.{ℕ, List, [], map, drop, string_bytes}
use Rattle.serde_json.specs.Data.{Data}
use Rattle.serde_json.specs.View.{view}
use Rattle.am_json.specs.Reading.{Gives, Reading, read_items}
use Rattle.am_config.specs.RouteView.{names_of}
use Rattle.am_json.proofs.Readings.{Leads}
use Rattle.am_config.proofs.config_file.read_each_name.Given as goal

-- reading the items that are left, after the names so far, gives what reading all items gives
abbrev pub invariant-loop-item : goal.invariant-loop-item
invariant-loop-item g l =
    (reading : List (List ℕ) → Data → Reading (List ℕ))
    → ((before : _) (value : _) (found : _) → goal.F-post g l.read before value found
    → Gives string_bytes found (reading (names_of before.now) (view value.now)))
    → Leads (read_items reading (names_of l.names.items) (map view (drop l.item-index l.items)))
    (read_items reading [] (map view l.items))
