-- A label's values as they are kept in memory, and as contracts see them.
use Rattle.std.specs.Prelude.{List, map, Option, option_map, String, string_bytes}
use Rattle.std.specs.declared.alloc.Global.{Global}
use Rattle.std.specs.Global.{Vec}
use Rattle.am_universe.specs.Universe.{Values, Label}

-- The texts of a list of values, without their location in memory; and a label with these values.
abbrev pub texts_of : List (Option (String Global)) → Values
texts_of values = map (option_map string_bytes) values

abbrev pub label_of : String Global → Vec (Option (String Global)) → Label
label_of name values = record { name = string_bytes name; values = texts_of values.items }
