use Rattle.std.proofs.Common.{◌≡◌, ◌++◌, map, take}
use Rattle.std.specs.List.{filter_map}
use Rattle.serde_json.specs.View.{view}
use Rattle.am_differences.specs.Parts.{named_item}
use Rattle.am_differences.specs.PartsView.{parts_view}
use Rattle.am_differences.proofs.parts.push_named_items.Given as goal

abbrev pub invariant-loop-value : goal.invariant-loop-value
invariant-loop-value l =
    parts_view l.parts.items
    ≡ parts_view l.initial.parts.items
    ++ filter_map named_item (map view (take l.value-index l.items))
