use Rattle.std.proofs.Common.{refl}
use Rattle.std.specs.Fmt as fmt
use Rattle.am_json.specs.OptionalItems as optional
use Rattle.am_json.specs.Reading as json
use Rattle.am_list_files.specs.NamedText as named
use Rattle.am_alerting_rules.specs.RulesForm as rules
use Rattle.am_alerting_rules.proofs.laws.faults_of_rules_by_example.Goals as goal

pub returns : goal.returns
unfolding fmt.digits optional.read_optional_items json.read_each json.read_next_item
    json.required_items json.required_text named.named_text_form rules.alerting_rule_form
    rules.group_form rules.groups_form rules.labels_form rules.next_label_form rules.rule_form
    rules.rule_name_form rules.rules_form
returns c = record { faults = refl }
