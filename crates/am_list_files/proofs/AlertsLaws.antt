-- The form of an export of alerts is lawful, and reading an export meets no pattern.
use Rattle.std.proofs.Common.{◌≡◌, ℕ, List, []}
use Rattle.am_json.specs.Pointer.{Refusal}
use Rattle.am_json.specs.Reading.{IsLawful, MayRefuse}
use Rattle.am_list_files.specs.AlertsFile.{SaysAlerts, FileSaysAlerts}
use Rattle.am_list_files.specs.AlertsForm.{next_label_form, alert_labels_form, alert_form}
use Rattle.am_list_files.specs.AlertsForm.{alerts_form, alerts_file_form, IsFirstFaultOfAlertsFile}
use Rattle.am_list_files.specs.NamedText.{named_text_form}
use Rattle.am_list_files.specs.declared.limits.TheConstants.{MAX_ALERTS}
use Rattle.am_json.proofs.Deciding.{file_decided}
use Rattle.am_json.proofs.FormLaws.{FormLaws, all_stop, file_stops, form_laws}
use Rattle.am_json.proofs.FormLaws.{each_plain, file_plain, or_null_plain, plain, plain_refused}
use Rattle.am_list_files.proofs.AlertsSays.{alerts_decide}

alerts_lawful : IsLawful alerts_form
unfolding alert_form alert_labels_form next_label_form named_text_form
alerts_lawful d = search all_stop depth 30

pub alerts_laws : FormLaws SaysAlerts alerts_form
alerts_laws = form_laws SaysAlerts alerts_form alerts_decide alerts_lawful

pub alerts_file_laws : FormLaws FileSaysAlerts alerts_file_form
unfolding alerts_file_form
alerts_file_laws =
    form_laws FileSaysAlerts alerts_file_form (file_decided SaysAlerts alerts_form alerts_decide)
    (file_stops alerts_form alerts_lawful)

-- ---- No pattern.

alerts_plain : (bytes : List ℕ) → (alerts_file_form bytes).patterns ≡ []
unfolding alerts_file_form alert_form alert_labels_form next_label_form named_text_form
alerts_plain bytes =
    file_plain alerts_form
    (or_null_plain alert_form (λ d. search (plain, each_plain) depth 20) MAX_ALERTS) bytes

pub alerts_file_refused : (bytes : List ℕ) (r : Refusal) → MayRefuse (alerts_file_form bytes) r
    → IsFirstFaultOfAlertsFile bytes r
alerts_file_refused bytes r refused =
    plain_refused alerts_file_laws bytes r (alerts_plain bytes) refused
