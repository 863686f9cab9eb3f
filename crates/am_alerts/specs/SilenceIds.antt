-- The identifiers of silences, by which a report names them.
use Rattle.std.specs.Prelude.{◌≡◌, ◌<◌, ℕ, List, [], map, codes, decimal, Option, None}
use Rattle.std.specs.Prelude.{option_and_then}
use Rattle.std.specs.Prelude.{option_map, slice_get, unwrap_or}
use Rattle.serde_json.specs.Data.{Data}
use Rattle.serde_json.specs.Find.{as_str}
use Rattle.am_json.specs.Json.{json_of, field, items_of}

-- The identifier of a silence in a value: the text of its field `id`, if that field is a text.
-- Source: Alertmanager API v2, "gettableSilence": `id`. Own choice: it may be missing, and nothing
-- is refused for it.
-- Example: for `{"id": "a1"}` it is `a1`. For `{"id": 1}`, `{"id": null}` and `{}` there is none.
abbrev pub id_of : Data → Option (List ℕ)
id_of d = option_and_then as_str (field (codes "id") d)

-- The identifiers of the items of an array, in order. Any other value has none.
-- Source: Alertmanager API v2, "gettableSilences".
-- Example: those of `[{"id": "a1"}, {}]` are `a1` and nothing, and `null` has none.
abbrev pub ids_of : Data → List (Option (List ℕ))
ids_of d = map id_of (unwrap_or (items_of d) [])

-- The identifiers from the bytes of a file of silences. Without a file there are none.
-- Source: own choice.
-- Example: without a file, or if it is `null`, there are none.
abbrev pub ids_of_file : Option (List ℕ) → List (Option (List ℕ))
ids_of_file file = unwrap_or (option_map ids_of (option_and_then json_of file)) []

-- The identifier of the silence at a position, if it has one.
abbrev pub id_at : List (Option (List ℕ)) → ℕ → Option (List ℕ)
id_at ids silence = unwrap_or (slice_get ids silence) None

-- How a report names the silence at a position: by its identifier, or else by the position in
-- decimal.
-- Source: own choice.
-- Example: if the second silence has no identifier, its name is `1`.
abbrev pub called : List (Option (List ℕ)) → ℕ → List ℕ
called ids silence = unwrap_or (id_at ids silence) (decimal silence)

-- The name at a position, or the empty text if there is none.
abbrev pub name_at : List (List ℕ) → ℕ → List ℕ
name_at names i = unwrap_or (slice_get names i) []

-- These are the names of so many silences.
abbrev pub AreNames : List (Option (List ℕ)) → ℕ → List (List ℕ) → Type 0
AreNames ids count names = (i : ℕ) → i < count → name_at names i ≡ called ids i
