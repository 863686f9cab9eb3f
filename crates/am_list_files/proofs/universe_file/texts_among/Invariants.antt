use Rattle.std.proofs.Common.{◌≡◌, ◌++◌, map, drop, string_bytes}
use Rattle.std.specs.List.{filter_map}
use Rattle.serde_json.specs.Find.{as_str}
use Rattle.serde_json.specs.View.{view}
use Rattle.am_list_files.proofs.universe_file.texts_among.Given as goal

-- the texts so far, and the texts among the items that are left, are all texts
abbrev pub invariant-loop-item : goal.invariant-loop-item
invariant-loop-item l =
    map string_bytes l.texts.items ++ filter_map as_str (map view (drop l.item-index l.items))
    ≡ filter_map as_str (map view l.items)
