-- The items of an array, and the identifier of the one at a position.
use Rattle.std.proofs.Common.{◌≡◌, ℕ, List, [], Some, None, map, ap, sym, ◌∙◌, option_map}
use Rattle.std.specs.Prelude.{slice_get, unwrap_or}
use Rattle.std.proofs.lemmas.Option.{slice_get-map}
use Rattle.serde_json.specs.declared.value.Value.{Value}
use Rattle.serde_json.specs.Data.{Data}
use Rattle.serde_json.specs.Find.{as_array}
use Rattle.serde_json.specs.View as values
use Rattle.am_json.specs.Json.{item_list, items_of}
use Rattle.am_json.proofs.Values.{item_list-items_of}
use Rattle.am_alerts.specs.SilenceIds.{id_of, ids_of, id_at}

pub items_are : (d : Data) (items : List Value) → Some (values.items_view items) ≡ as_array d
    → unwrap_or (items_of d) [] ≡ map values.view items
items_are d items e =
    ap (λ found. unwrap_or (option_map item_list found) []) (sym e)
    ∙ item_list-items_of (map values.view items)

-- the items of the array, each as the code reads it
here : (d : Data) (items : List Value) (i : ℕ) → Some (values.items_view items) ≡ as_array d
    → id_at (ids_of d) i
    ≡ unwrap_or (option_map id_of (option_map values.view (slice_get items i))) None
here d items i e =
    ap (λ xs. unwrap_or (slice_get (map id_of xs) i) None) (items_are d items e)
    ∙ ap (λ found. unwrap_or found None) (slice_get-map id_of (map values.view items) i
    ∙ ap (option_map id_of) (slice_get-map values.view items i))

pub some_item : (d : Data) (items : List Value) (i : ℕ) (item : Value)
    → Some (values.items_view items) ≡ as_array d → slice_get items i ≡ Some item
    → id_at (ids_of d) i ≡ id_of (values.view item)
some_item d items i item e at =
    here d items i e
    ∙ ap (λ found. unwrap_or (option_map id_of (option_map values.view found)) None) at

pub no_item : (d : Data) (items : List Value) (i : ℕ)
    → Some (values.items_view items) ≡ as_array d → slice_get items i ≡ None
    → id_at (ids_of d) i ≡ None
no_item d items i e at =
    here d items i e
    ∙ ap (λ found. unwrap_or (option_map id_of (option_map values.view found)) None) at
