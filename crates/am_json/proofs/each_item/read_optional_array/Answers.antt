use Rattle.std.proofs.Common.{map}
use Rattle.serde_json.specs.View.{view}
use Rattle.am_json.specs.OptionalItems.{read_optional_array, read_optional_items}
use Rattle.am_json.specs.Pointer.{to_field}
use Rattle.am_json.specs.Reading.{read_counted, reading_within}
use Rattle.am_json.proofs.Readings.{gives_later, within_gives}
use Rattle.am_json.proofs.each_item.read_optional_array.Goals as goal

pub returns-clause-reading : goal.returns-clause-reading
unfolding read_optional_array
returns-clause-reading g c = λ reading gives.
    let key = c.args.key.now in
    let limit = c.args.limit in
    let items = map view c.in_ok-items.items.now in
    let counted =
    within_gives (λ xs. xs.items) (to_field key) c.read_counted.result c.within_field.result
    (read_counted limit reading items) (c.read_counted.ensures.reading reading gives)
    c.within_field.ensures.within in
    gives_later (λ xs. xs.items) c.within_field.result
    (read_optional_items key (view c.args.value.now))
    (λ ds. reading_within (to_field key) (read_counted limit reading ds)) items
    c.in_ok-items.ensures.reading counted
