use Rattle.std.proofs.Common.{refl}
use Rattle.std.specs.Fmt as fmt
use Rattle.am_labels.specs.MatcherReading as reading
use Rattle.am_json.specs.OptionalItems as optional
use Rattle.am_json.specs.Reading as json
use Rattle.am_list_files.specs.AlertsForm as alerts
use Rattle.am_list_files.specs.MatcherTexts as texts
use Rattle.am_list_files.specs.NamedText as named
use Rattle.am_list_files.specs.SilencesForm as silences
use Rattle.am_list_files.specs.UniverseForm as universe
use Rattle.am_list_files.proofs.laws.faults_of_lists_by_example.Goals as goal

pub returns : goal.returns
unfolding fmt.digits reading.read_list reading.read_each_piece reading.read_piece reading.read_name
    reading.read_operator reading.read_body optional.read_optional_array
    optional.read_optional_items json.check_only_fields json.read_boolean_or json.read_counted
    json.read_each json.read_item_array json.read_next_item json.required_items json.required_text
    texts.matcher_text_form named.named_text_form universe.all_labels_form
    universe.impossible_form universe.labels_form universe.next_label_form
    universe.next_value_form universe.universe_form universe.values_form silences.label_name_form
    silences.required_instant_form silences.silence_form silences.silence_matcher_form
    silences.silence_matchers_form alerts.alert_form alerts.alert_labels_form
    alerts.next_label_form
returns c = record { universes = refl; silences = refl; alerts = refl }
