-- The form of an export of silences is lawful.
use Rattle.am_json.specs.Reading.{IsLawful}
use Rattle.am_list_files.specs.SilencesFile.{SaysSilences, FileSaysSilences}
use Rattle.am_list_files.specs.SilencesForm.{label_name_form, silence_matcher_form}
use Rattle.am_list_files.specs.SilencesForm.{silence_matchers_form, required_instant_form}
use Rattle.am_list_files.specs.SilencesForm.{silence_form}
use Rattle.am_list_files.specs.SilencesForm.{silences_form, silences_file_form}
use Rattle.am_json.proofs.Deciding.{file_decided}
use Rattle.am_json.proofs.FormLaws.{FormLaws, all_stop, file_stops, form_laws}
use Rattle.am_list_files.proofs.SilencesSays.{silences_decide}

silences_lawful : IsLawful silences_form
unfolding silence_form silence_matchers_form silence_matcher_form label_name_form
    required_instant_form
silences_lawful d = search all_stop depth 40

pub silences_laws : FormLaws SaysSilences silences_form
silences_laws = form_laws SaysSilences silences_form silences_decide silences_lawful

pub silences_file_laws : FormLaws FileSaysSilences silences_file_form
unfolding silences_file_form
silences_file_laws =
    form_laws FileSaysSilences silences_file_form
    (file_decided SaysSilences silences_form silences_decide)
    (file_stops silences_form silences_lawful)
