-- A label set as it is kept in memory, and as contracts see it.
use Rattle.std.specs.Prelude.{ℕ, List, map, String, string_bytes}
use Rattle.std.specs.Coded.{Coded, coded_list, coded_ℕ}
use Rattle.std.specs.declared.alloc.Global.{Global}
use Rattle.std.specs.FinMap.{code, from_entries}
use Rattle.am_universe.specs.LabelSet.{LabelMap}

-- The code of label maps, by which a proof tells two of them apart.
abbrev pub label_map_code : Coded LabelMap
label_map_code = code (coded_list coded_ℕ) (coded_list coded_ℕ)

-- The texts of a list of entries, without their location in memory; and the label map of that list.
abbrev pub entry_texts : List (String Global × String Global) → List (List ℕ × List ℕ)
entry_texts entries = map (λ e. (string_bytes e.0, string_bytes e.1)) entries

abbrev pub label_map_of : List (String Global × String Global) → LabelMap
label_map_of entries = from_entries (entry_texts entries)
