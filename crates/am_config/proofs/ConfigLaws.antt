-- The form of a configuration file is lawful.
use Rattle.std.proofs.Common.{ℕ, zero, suc, List, Bool, Option, Some, None}
use Rattle.serde_json.specs.Data.{Data}
use Rattle.am_labels.specs.Matcher.{Matcher}
use Rattle.am_labels.specs.declared.op.Op.{Op}
use Rattle.am_json.specs.Reading.{IsLawful, StopsAtFirst}
use Rattle.am_config.specs.ConfigFile.{Parent, SaysConfig, FileSaysConfig}
use Rattle.am_config.specs.ConfigForm.{config_form, config_file_form, effective_receiver}
use Rattle.am_config.specs.ConfigForm.{equal_name_form, matcher_pair_form, matchers_form}
use Rattle.am_config.specs.ConfigForm.{next_pair_form, next_receiver_form, next_text_form}
use Rattle.am_config.specs.ConfigForm.{optional_pairs, optional_texts, pairs_form, receiver_form}
use Rattle.am_config.specs.ConfigForm.{receiver_names_form, receivers_form, route_fields_form}
use Rattle.am_config.specs.ConfigForm.{route_form, route_settings_form, rule_form, texts_form}
use Rattle.am_list_files.specs.MatcherTexts.{matcher_text_form}
use Rattle.am_list_files.specs.NamedText.{named_text_form}
use Rattle.am_json.proofs.Deciding.{file_decided}
use Rattle.am_json.proofs.FormLaws.{FormLaws, all_stop, file_stops, form_laws}
use Rattle.am_config.proofs.ConfigSays.{config_decides}

-- ---- Fields that may be absent.

effective_stops : (names : List (List ℕ)) (parent : Option ℕ) (found : Option Data)
    → StopsAtFirst (effective_receiver names parent found)
effective_stops names parent None = search all_stop
effective_stops names parent (Some d) = search all_stop

texts_stop : (is_root : Bool) (key : List ℕ) (found : Option Data)
    → StopsAtFirst (optional_texts is_root key found)
unfolding texts_form next_text_form matcher_text_form
texts_stop is_root key None = search all_stop
texts_stop is_root key (Some d) = search all_stop depth 30

pairs_stop : (is_root : Bool) (op : Op) (key : List ℕ) (before : List Matcher)
    (found : Option Data) → StopsAtFirst (optional_pairs is_root op key before found)
unfolding pairs_form next_pair_form matcher_pair_form named_text_form
pairs_stop is_root op key before None = search all_stop
pairs_stop is_root op key before (Some d) = search all_stop depth 30

-- ---- The routes.

fields_stop : (names : List (List ℕ)) (parent : Parent) (before : ℕ) (d : Data)
    → StopsAtFirst (route_fields_form names parent before d)
unfolding route_fields_form route_settings_form receiver_form matchers_form
fields_stop names parent before d =
    search (all_stop, effective_stops, texts_stop, pairs_stop) depth 30

route_stops : (names : List (List ℕ)) (left : ℕ) (parent : Parent) (before : ℕ) (d : Data)
    → StopsAtFirst (route_form names left parent before d)
unfolding route_form
route_stops names zero parent before d = search all_stop
route_stops names (suc left) parent before d =
    let deeper : (above : Parent) (n : ℕ) (e : Data)
    → StopsAtFirst (route_form names left above n e) = λ above n e. route_stops names left above n e
    in
    search (all_stop, fields_stop, deeper) depth 20

-- ---- The file.

config_lawful : IsLawful config_form
unfolding config_form receivers_form receiver_names_form next_receiver_form rule_form
    equal_name_form matchers_form
config_lawful d = search (all_stop, route_stops, texts_stop, pairs_stop) depth 40

pub config_laws : FormLaws SaysConfig config_form
config_laws = form_laws SaysConfig config_form config_decides config_lawful

pub config_file_laws : FormLaws FileSaysConfig config_file_form
unfolding config_file_form
config_file_laws =
    form_laws FileSaysConfig config_file_form (file_decided SaysConfig config_form config_decides)
    (file_stops config_form config_lawful)
