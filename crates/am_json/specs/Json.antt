-- The JSON value of a file, and its parts. (RFC 8259, as `serde_json` reads it.)
use Rattle.std.specs.Prelude.{◌≡◌, ◌⊎◌, ◌≤◌, ℕ, List, [], ◌∷◌, length, Bool, not, ◌&&◌}
use Rattle.std.specs.Prelude.{if◌then◌else◌, Option, Some, None, is_some, option_map}
use Rattle.std.specs.Prelude.{option_and_then, unwrap_or, IsTrue, ⊤}
use Rattle.std.specs.Ordering.{nat_cmp, match_ordering}
use Rattle.std.specs.Cmp.Lexicographic.{slice_cmp}
use Rattle.std.specs.List.{list_any}
use Rattle.std.specs.Str.{is_utf8}
use Rattle.serde_json.specs.Data.{Data, null, boolean, object, Items, no_items, item, Members}
use Rattle.serde_json.specs.Data.{no_members, member}
use Rattle.serde_json.specs.Find.{get, as_null, as_array}
use Rattle.serde_json.specs.Read.{read}
use Rattle.am_universe.specs.Text.{same_text}
use Rattle.am_json.specs.declared.limits.TheConstants.{MAX_FILE_BYTES}

-- The JSON value of the bytes of a file, if they are UTF-8 and the grammar of `serde_json` reads
-- them. The grammar allows at most 127 levels of nesting.
-- Source: RFC 8259. `serde_json` decides what it leaves open: if a key occurs twice in one object,
-- the last one counts, and nesting has a limit.
-- Example: the value of `{"a": 1, "a": 2}` is that of `{"a": 2}`. `{"a": 1,}` has no value.
abbrev pub json_of : List ℕ → Option Data
json_of bytes = if is_utf8 bytes then read bytes else None

-- The bytes of a file, at most `MAX_FILE_BYTES`, say what their JSON value says.
abbrev pub FileSays : {A : Type 0} → (Data → A → Type 0) → List ℕ → A → Type 0
FileSays Says bytes x =
    (length bytes ≤ MAX_FILE_BYTES) × (d : Data) × (json_of bytes ≡ Some d) × Says d x

-- The value is `null`.
abbrev pub is_null : Data → Bool
is_null d = is_some (as_null d)

-- A field that is `null` counts as absent. `non_null` returns a value unless it is `null`, and
-- `field` returns the value of the field with a key, if there is one.
-- Source: own choice.
-- Example: in `{"a": null, "b": 1}` the field `b` is 1. The fields `a` and `c` are absent.
abbrev pub non_null : Data → Option Data
non_null d = if is_null d then None else Some d

abbrev pub field : List ℕ → Data → Option Data
field key d = option_and_then non_null (get key d)

-- A field says a truth value: it is `true` or `false`. If it is absent, it says this default.
abbrev pub SaysBooleanOr : Bool → List ℕ → Data → Bool → Type 0
SaysBooleanOr default key d truth =
    ((field key d ≡ None) × (truth ≡ default)) ⊎ (field key d ≡ Some (boolean truth))

-- The key is one of these names.
abbrev pub is_one_of : List ℕ → List (List ℕ) → Bool
is_one_of key names = list_any (λ name. same_text name key) names

-- The members with these names, and a value with only these fields if it is an object.
abbrev pub only_members : List (List ℕ) → Members → Members
only_members names no_members = no_members
only_members names (member key d rest) =
    if is_one_of key names then member key d (only_members names rest)
    else only_members names rest

abbrev pub only_fields : List (List ℕ) → Data → Data
only_fields names (object members) = object (only_members names members)
only_fields names d = d

-- A member is not one of the known fields. A member that is `null` is absent, so it is not unknown.
abbrev pub is_unknown : List (List ℕ) → List ℕ → Data → Bool
is_unknown known key d = not (is_null d) && not (is_one_of key known)

-- The lesser of two keys, by their bytes. If there is no second key, it is the first.
abbrev pub lesser_key : List ℕ → Option (List ℕ) → List ℕ
lesser_key key None = key
lesser_key key (Some other) = match_ordering (slice_cmp nat_cmp key other) key key other

-- The least key of an unknown member, if there is one.
abbrev pub unknown_field : List (List ℕ) → Members → Option (List ℕ)
unknown_field known no_members = None
unknown_field known (member key d rest) =
    if is_unknown known key d then Some (lesser_key key (unknown_field known rest))
    else unknown_field known rest

-- The items of an array, in order.
abbrev pub item_list : Items → List Data
item_list no_items = []
item_list (item d ds) = d ∷ item_list ds

abbrev pub items_of : Data → Option (List Data)
items_of d = option_map item_list (as_array d)

-- The items of the array in a field. If the field is absent or is not an array, there are none.
abbrev pub items_in_field : Option Data → List Data
items_in_field found = unwrap_or (option_and_then items_of found) []

-- The members of an object as a list of keys and values.
abbrev pub member_list : Members → List (List ℕ × Data)
member_list no_members = []
member_list (member key d rest) = (key, d) ∷ member_list rest

-- The value is an object, and each of its members has one of these names or is `null`.
abbrev pub AreOnlyFields : List (List ℕ) → Members → Type 0
AreOnlyFields known no_members = ⊤
AreOnlyFields known (member key d rest) =
    ((d ≡ null) ⊎ IsTrue (is_one_of key known)) × AreOnlyFields known rest

abbrev pub HasOnlyFields : List (List ℕ) → Data → Type 0
HasOnlyFields known d = (members : Members) × (d ≡ object members) × AreOnlyFields known members
