use Rattle.std.proofs.Common.{refl}
use Rattle.std.specs.Fmt as fmt
use Rattle.am_json.specs.OptionalItems.{read_optional_array, read_optional_items}
use Rattle.am_json.specs.Reading.{check_only_fields, read_boolean_or, read_counted, read_each}
use Rattle.am_json.specs.Reading.{read_item_array, read_next_item, required_text}
use Rattle.am_json.proofs.laws.forms_by_example.Goals as goal

pub returns : goal.returns
unfolding check_only_fields required_text read_boolean_or read_counted read_each read_next_item
    read_item_array read_optional_array read_optional_items fmt.digits
returns c = record {
  kind = refl;
  unknown = refl;
  required = refl;
  default = refl;
  items = refl;
  taken = refl;
  counted = refl;
  optional = refl;
  or_null = refl;
  both = refl;
  stops = refl;
  first = refl;
  before = refl;
  only = refl;
  whole = refl;
}
