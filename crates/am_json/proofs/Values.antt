-- The parts of a JSON value, as they are kept in memory.
use Rattle.std.proofs.Common.{◌≡◌, ℕ, List, [], ◌∷◌, Bool, true, false, Some, None, refl}
use Rattle.std.proofs.Common.{ap, length, suc}
use Rattle.std.specs.Str.{IsUtf8, is_utf8}
use Rattle.std.proofs.lemmas.Str.{IsUtf8-from_is_utf8, is_utf8-from_IsUtf8}
use Rattle.serde_json.specs.Data.{Data}
use Rattle.serde_json.specs.Read.{read}
use Rattle.serde_json.specs.View as view
use Rattle.serde_json.proofs.Views.{Entry}
use Rattle.am_json.specs.Json.{json_of, item_list, member_list}

-- a list of values, made into items and back, is the same list
pub item_list-items_of : (ds : List Data) → item_list (view.items_of ds) ≡ ds
item_list-items_of [] = refl
item_list-items_of (d ∷ ds) = ap (λ (es : List Data). d ∷ es) (item_list-items_of ds)

-- there are as many members as are kept in memory
pub members_long : (es : List Entry) → length (member_list (view.members_view es)) ≡ length es
members_long [] = refl
members_long (e ∷ es) = ap suc (members_long es)

-- the value that is read from a text is the JSON value of its bytes
pub json_of_text : (bytes : List ℕ) (d : Data) → IsUtf8 bytes → read bytes ≡ Some d
    → json_of bytes ≡ Some d
json_of_text bytes d text e = rw (is_utf8-from_IsUtf8 bytes text) e

none_by_test : (bytes : List ℕ) (b : Bool) → is_utf8 bytes ≡ b → (IsUtf8 bytes → read bytes ≡ None)
    → json_of bytes ≡ None
none_by_test bytes true e h = rw e (h (IsUtf8-from_is_utf8 bytes e))
none_by_test bytes false e h = rw e refl

-- bytes have no JSON value if no value is read from them as a text
pub json_of_none : (bytes : List ℕ) → (IsUtf8 bytes → read bytes ≡ None) → json_of bytes ≡ None
json_of_none bytes h = none_by_test bytes (is_utf8 bytes) refl h
