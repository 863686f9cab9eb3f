use Rattle.std.proofs.Common.{map, refl}
use Rattle.serde_json.specs.View.{view}
use Rattle.am_json.proofs.Values.{item_list-items_of}
use Rattle.am_json.proofs.parts.as_items.Goals as goal

pub returns-in-Some : goal.returns-in-Some
returns-in-Some c =
    rw (
      ← c.in-Some.ensures,
      item_list-items_of (map view c.in-Some.items.now.items),
      c.as_slice.ensures.value,
    ) (record { reading = refl })
