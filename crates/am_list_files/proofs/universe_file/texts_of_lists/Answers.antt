use Rattle.std.proofs.Common.{map}
use Rattle.serde_json.specs.View.{view}
use Rattle.am_json.proofs.Values.{item_list-items_of}
use Rattle.am_list_files.proofs.universe_file.texts_of_lists.Goals as goal

pub returns-in-Some-as_array : goal.returns-in-Some-as_array
returns-in-Some-as_array c =
    let items = c.in-Some-as_array.items.now.items in
    rw (
      ← c.in-Some.ensures.value,
      ← c.in-Some-as_array.ensures,
      item_list-items_of (map view items),
      ← c.as_slice.ensures.value,
    ) c.texts_among.ensures
