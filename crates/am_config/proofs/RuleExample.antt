-- What reading the worked example of an inhibition rule gives.
use Rattle.std.proofs.Common.{◌≡◌, Ok, refl}
use Rattle.am_json.specs.Reading.{check_only_fields, read_counted, read_each, read_next_item}
use Rattle.am_list_files.specs.NamedText.{named_text_form}
use Rattle.am_config.specs.ConfigFile.{SaysRule}
use Rattle.am_config.specs.ConfigForm.{matchers_form, pairs_form}
use Rattle.am_config.specs.ConfigForm.{next_pair_form, matcher_pair_form, equal_name_form}
use Rattle.am_config.specs.ConfigForm.{rule_form}
use Rattle.am_config.specs.RuleExample.{rule_example, example_rule}
use Rattle.am_config.proofs.RuleSays.{rule_decides}
use Rattle.am_json.specs.OptionalItems.{read_optional_array, read_optional_items}

is_read : (rule_form rule_example).result ≡ Ok example_rule
unfolding rule_form check_only_fields matchers_form pairs_form read_each next_pair_form
    matcher_pair_form named_text_form read_optional_array read_optional_items read_counted
    read_next_item equal_name_form
is_read = refl

pub says : SaysRule rule_example example_rule
says = (rule_decides rule_example).says example_rule is_read
