use Rattle.std.proofs.Common.{refl}
use Rattle.std.specs.Fmt as fmt
use Rattle.am_labels.specs.MatcherReading as reading
use Rattle.am_json.specs.OptionalItems as optional
use Rattle.am_json.specs.Reading as json
use Rattle.am_list_files.specs.MatcherTexts as texts
use Rattle.am_list_files.specs.NamedText as named
use Rattle.am_config.specs.ConfigForm as form
use Rattle.am_config.proofs.laws.faults_of_configurations_by_example.Goals as goal

pub returns : goal.returns
unfolding fmt.digits reading.read_list reading.read_each_piece reading.read_piece reading.read_name
    reading.read_operator reading.read_body optional.read_optional_array
    optional.read_optional_items json.check_only_fields json.read_boolean_or json.read_counted
    json.read_each json.read_next_item json.required_items json.required_text
    texts.matcher_text_form named.named_text_form form.config_form form.equal_name_form
    form.matcher_pair_form form.matchers_form form.next_pair_form form.next_receiver_form
    form.next_text_form form.pairs_form form.receiver_form form.receiver_names_form
    form.receivers_form form.route_fields_form form.route_form form.route_settings_form
    form.rule_form form.texts_form
returns c = record { faults = refl }
