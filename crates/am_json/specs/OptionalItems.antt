-- Arrays that may be absent: which items an array in an optional field has, and its form; and what
-- an array or `null` says. (This project's own.)
use Rattle.std.specs.Prelude.{◌≡◌, ◌⊎◌, ◌≤◌, ℕ, List, [], length, Option, Some, None}
use Rattle.std.specs.Prelude.{option_and_then}
use Rattle.std.specs.List.{AllZip}
use Rattle.serde_json.specs.Data.{Data, null}
use Rattle.am_json.specs.Json.{field, items_of}
use Rattle.am_json.specs.Pointer.{to_field}
use Rattle.am_json.specs.Reading.{Reading, ◌>>=◌, accept, reading_within, as_items, read_counted}

-- A field has an array with these items. If the field is absent, there are none.
abbrev pub HasItems : List ℕ → Data → List Data → Type 0
HasItems key d items =
    ((field key d ≡ None) × (items ≡ []))
    ⊎ (option_and_then items_of (field key d) ≡ Some items)

-- An array of at most `limit` items says a list: each item says the element at its position. In
-- `SaysItemsOrNull`, `null` says the empty list.
-- Source: own choice.
-- Example: let the items be texts. With the limit 2, `["a", "b"]` says a list of two texts. With
-- the limit 1, it says nothing.
pub record AreItems {A : Type 0} (Says : Data → A → Type 0) (limit : ℕ) (d : Data) (xs : List A)
    : Type 0 where
  pub items : List Data
  pub is_array : items_of d ≡ Some items
  pub few : length items ≤ limit
  pub each : AllZip Says items xs

abbrev pub SaysItemsOrNull : {A : Type 0} → (Data → A → Type 0) → ℕ → Data → List A → Type 0
SaysItemsOrNull Says limit d xs = ((d ≡ null) × (xs ≡ [])) ⊎ AreItems Says limit d xs

-- An optional field says a list: it has an array of at most `limit` items, and each item says the
-- element at its position. If the field is absent, it says the empty list.
-- Source: own choice.
-- Example: let the items be texts. In the field `a` and with the limit 1, `{"a": ["x"]}` says a
-- list of one text, `{}` says the empty list, and `{"a": ["x", "y"]}` says nothing.
pub record SaysItemsInField {A : Type 0} (Says : Data → A → Type 0) (key : List ℕ) (limit : ℕ)
    (d : Data) (xs : List A) : Type 0 where
  pub items : List Data
  pub has_items : HasItems key d items
  pub few : length items ≤ limit
  pub each : AllZip Says items xs

-- The items of an optional array, and the items of the array in an optional field. If it is absent,
-- there are none.
abbrev pub optional_items : Option Data → Reading (List Data)
optional_items None = accept []
optional_items (Some d) = as_items d

unfoldable pub read_optional_items : List ℕ → Data → Reading (List Data)
read_optional_items key d = reading_within (to_field key) (optional_items (field key d))

-- The items of the array in an optional field, of which there may be at most `limit`. Each is read
-- by itself.
unfoldable pub read_optional_array : {A : Type 0} → List ℕ → ℕ → (Data → Reading A) → Data
    → Reading (List A)
read_optional_array key limit read d = do
  items ← read_optional_items key d
  reading_within (to_field key) (read_counted limit read items)
