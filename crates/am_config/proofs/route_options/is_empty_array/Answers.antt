-- An array is empty exactly if it has no items.
use Rattle.std.proofs.Common.{◌≡◌, ◌==◌, List, [], ◌∷◌, length, refl, arith}
use Rattle.std.specs.Prelude.{is_none}
use Rattle.std.proofs.lemmas.Bool.Decides.{nat_tests}
use Rattle.serde_json.specs.Data.{array}
use Rattle.serde_json.specs.View.{items_view}
use Rattle.serde_json.specs.declared.value.Value.{Value}
use Rattle.serde_json.proofs.Views.{view-Array}
use Rattle.am_config.specs.RouteOptions.{unless_empty}
use Rattle.am_config.proofs.route_options.is_empty_array.Goals as goal

empty_seen : (vs : List Value) → (length vs == 0) ≡ is_none (unless_empty (array (items_view vs)))
empty_seen [] = refl
empty_seen (v ∷ vs) = grind (arith, nat_tests)

pub returns-in-Array : goal.returns-in-Array
returns-in-Array c =
    rw (
      c.is_empty.ensures,
      c.as_slice.ensures.value,
      c.in-Array.is,
      view-Array c.in-Array.items,
    )
    (empty_seen c.in-Array.items.items)
