-- The form of a universe file is lawful.
use Rattle.am_json.specs.Reading.{IsLawful}
use Rattle.am_list_files.specs.MatcherTexts.{matcher_text_form}
use Rattle.am_list_files.specs.UniverseFile.{SaysUniverse, FileSaysUniverse}
use Rattle.am_list_files.specs.UniverseForm.{next_value_form, values_form, next_label_form}
use Rattle.am_list_files.specs.UniverseForm.{labels_form, all_labels_form, impossible_form}
use Rattle.am_list_files.specs.UniverseForm.{universe_form, universe_file_form}
use Rattle.am_json.proofs.Deciding.{file_decided}
use Rattle.am_json.proofs.FormLaws.{FormLaws, all_stop, file_stops, form_laws}
use Rattle.am_list_files.proofs.UniverseSays.{universe_decides}

universe_lawful : IsLawful universe_form
unfolding universe_form all_labels_form labels_form next_label_form values_form next_value_form
    impossible_form matcher_text_form
universe_lawful d = search all_stop depth 40

pub universe_laws : FormLaws SaysUniverse universe_form
universe_laws = form_laws SaysUniverse universe_form universe_decides universe_lawful

pub universe_file_laws : FormLaws FileSaysUniverse universe_file_form
unfolding universe_file_form
universe_file_laws =
    form_laws FileSaysUniverse universe_file_form
    (file_decided SaysUniverse universe_form universe_decides)
    (file_stops universe_form universe_lawful)
