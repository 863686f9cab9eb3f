-- The parts of a configuration file that are no routes.
use Rattle.std.specs.Prelude.{ℕ, List, [], ◌++◌, Bool, false, not, ◌&&◌, ◌||◌, Option, Some}
use Rattle.std.specs.Prelude.{None, is_some, option_map, option_and_then, codes}
use Rattle.std.specs.Prelude.{if◌then◌else◌}
use Rattle.std.specs.List.{filter, filter_map, list_all}
use Rattle.serde_json.specs.Data.{Data, Members, object}
use Rattle.serde_json.specs.Find.{as_str}
use Rattle.am_universe.specs.Text.{same_text}
use Rattle.am_json.specs.Json.{field, is_null, items_of, items_in_field, member_list}

-- A part of a file: its name, and its JSON value.
abbrev pub Part : Type 0
Part = List ℕ × Data

-- The name of an item is the text in its field `name`.
abbrev pub item_name : Data → Option (List ℕ)
item_name d = option_and_then as_str (field (codes "name") d)

abbrev pub named_item : Data → Option Part
named_item d = option_map (λ name. (name, d)) (item_name d)

-- A value is an array, and each item has a name.
abbrev pub is_named : Data → Bool
is_named d = is_some (item_name d)

abbrev pub all_have_names : Option (List Data) → Bool
all_have_names None = false
all_have_names (Some items) = list_all is_named items

abbrev pub are_all_named : Data → Bool
are_all_named d = all_have_names (items_of d)

-- The items of an array of which each has a name. Any other value has none.
abbrev pub named_items : Option Data → List Part
named_items found =
    if list_all is_named (items_in_field found) then filter_map named_item (items_in_field found)
    else []

-- The receivers, and the time intervals. Both fields of time intervals declare names of one kind.
-- Source: Alertmanager configuration reference 0.25, "File layout and global settings",
-- "<receiver>" and "<time_interval>".
-- Example: `{"mute_time_intervals": [{"name": "a"}], "time_intervals": [{"name": "b"}]}` has the
-- time intervals `b` and `a`.
abbrev pub receiver_parts : Members → List Part
receiver_parts rest = named_items (field (codes "receivers") (object rest))

abbrev pub interval_parts : Members → List Part
interval_parts rest =
    named_items (field (codes "time_intervals") (object rest))
    ++ named_items (field (codes "mute_time_intervals") (object rest))

-- The inhibition rules, as JSON values.
abbrev pub rule_values : Members → List Data
rule_values rest = items_in_field (field (codes "inhibit_rules") (object rest))

-- A field is a part as a whole, unless it is `null`, or its items are the parts: named items of the
-- fields above, or inhibition rules.
-- Source: own choice.
-- Example: `{"global": {}, "receivers": [], "templates": null}` has only the part `global`.
abbrev pub is_named_field : List ℕ → Bool
is_named_field key =
    same_text key (codes "receivers") || (same_text key (codes "time_intervals")
    || same_text key (codes "mute_time_intervals"))

abbrev pub is_in_parts : List ℕ → Data → Bool
is_in_parts key d =
    (is_named_field key && are_all_named d)
    || (same_text key (codes "inhibit_rules") && is_some (items_of d))

abbrev pub is_field_part : List ℕ → Data → Bool
is_field_part key d = not (is_null d) && not (is_in_parts key d)

abbrev pub field_parts : Members → List Part
field_parts rest = filter (λ m. is_field_part m.0 m.1) (member_list rest)
