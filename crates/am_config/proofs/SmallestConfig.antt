-- What reading the smallest configuration file gives.
use Rattle.std.proofs.Common.{◌≡◌, length, Ok, Some}
use Rattle.std.proofs.Common.{refl, codes, arith}
use Rattle.serde_json.specs.Data.{Data, string, array, object, no_items, item, no_members, member}
use Rattle.json.proofs.Printed.Utf8.{IsUtf8-are_ascii}
use Rattle.serde_json.specs.Read.{read}
use Rattle.serde_json.proofs.OnLiterals.{serde_json_on_literals}
use Rattle.am_json.specs.Json.{json_of}
use Rattle.am_json.specs.Reading.{required_items, required_text, read_each, read_next_item}
use Rattle.am_json.specs.Reading.{check_only_fields, read_boolean_or, read_counted}
use Rattle.am_config.specs.ConfigFile.{FileSaysConfig}
use Rattle.am_config.specs.ConfigForm.{config_form, receivers_form, receiver_names_form}
use Rattle.am_config.specs.ConfigForm.{next_receiver_form, route_form, route_fields_form}
use Rattle.am_config.specs.ConfigForm.{route_settings_form, receiver_form, matchers_form}
use Rattle.am_config.specs.SmallestConfig.{smallest_config_file, smallest_config}
use Rattle.am_json.proofs.Values.{json_of_text}
use Rattle.am_config.proofs.ConfigSays.{config_decides}
use Rattle.am_json.specs.OptionalItems.{read_optional_array, read_optional_items}

abbrev value : Data
value = object (member (codes "receivers")
    (array (item (object (member (codes "name") (string (codes "none")) no_members)) no_items))
    (member (codes "route")
    (object (member (codes "receiver") (string (codes "none")) no_members)) no_members))

reads : read smallest_config_file ≡ Some value
unfolding serde_json_on_literals
reads = refl

has_value : json_of smallest_config_file ≡ Some value
has_value =
    json_of_text smallest_config_file value (IsUtf8-are_ascii smallest_config_file refl) reads

says_smallest : (config_form value).result ≡ Ok smallest_config
unfolding config_form receivers_form required_items receiver_names_form read_each read_next_item
    next_receiver_form required_text route_form route_fields_form route_settings_form
    check_only_fields receiver_form matchers_form read_boolean_or read_optional_items read_optional_array read_counted
says_smallest = refl

few_bytes : length smallest_config_file ≡ 59
few_bytes = refl

pub says : FileSaysConfig smallest_config_file smallest_config
says = (
  omega (arith, few_bytes),
  value,
  has_value,
  (config_decides value).says smallest_config says_smallest,
)
