-- What `routes` owes. (This project's own.)
use Rattle.std.specs.Prelude.{◌⊎◌, ℕ, List, ◌∷◌, ◌++◌, Option, ⊤}
use Rattle.am_universe.specs.declared.place.Place.{Place}
use Rattle.am_universe.specs.declared.place.Place.TheVariants as places
use Rattle.am_labels.specs.Space.{Space}
use Rattle.am_json.specs.Pointer.{Refusal}
use Rattle.am_config.specs.ConfigFile.{Configuration}
use Rattle.am_files.specs.Promise.{Promise}
use Rattle.am_files.specs.Faults.{later_stages}
use Rattle.am_classes.specs.declared.alphabet.Alphabet.{Alphabet}
use Rattle.am_asked.specs.OriginPointer.{matcher_places}
use Rattle.am_every_alert.specs.EveryAlert.{IsAlertOf}
use Rattle.am_report_texts.specs.declared.writing.Form.{Form}
use Rattle.am_report_texts.specs.Written.{IsWritten}
use Rattle.am_outcomes.specs.Configurations.{One}
use Rattle.am_route_alerts.specs.RouteAlerts.{RouteAlerts, AreRouteAlerts}
use Rattle.am_route_alerts.specs.RouteLines.{routes_report}
use Rattle.am_reports.specs.ReportInputs.{ReportInputs, AcceptsReportInputs, report_input_stages}
use Rattle.am_reports.specs.AskedReceivers.{AreAsked, receivers_stage}
use Rattle.am_reports.specs.CutOff.{IsCutOff}
use Rattle.am_reports.specs.Made.{AreDeclaredWhole, IsDeclaredRefusal, IsMadeRefusal}

-- The text is a report of which alerts end at each route, for the alerts of a space over an
-- alphabet: a line for each route, and then `# end`. If receivers are named, there is a line for
-- each route that has one of them, and for no other route.
-- Source: own choice.
-- Example: `/0 "db-mail" {team="db"}` says that of the alerts that count those with this team end
-- at `/0`, and no others.
pub record IsEndsReport (a : Alphabet) (s : Space) (c : Configuration)
    (names : List (List ℕ)) (form : Form) (report : List ℕ) : Type 0 where
  pub receivers : Option (List ℕ)
  pub asked : AreAsked c names receivers
  pub routes : List RouteAlerts
  pub are : AreRouteAlerts (IsAlertOf a s) c receivers routes
  pub text : IsWritten form (routes_report c routes) report

-- The inputs are accepted, no label that the universe file declares lacks a value, and the text is
-- a report of the routes of the configuration, for every possible alert; with `--ascii`, for every
-- possible alert whose values are printable ASCII.
-- Source: own choice.
-- Example: if the top-level route is the only route and has the receiver `a`, and some alert is
-- possible, the report is the lines `/ "a" {}` and `# end`, or their JSON.
pub record ReportsRoutes (inputs : ReportInputs) (names : List (List ℕ)) (report : List ℕ)
    : Type 0 where
  pub space : Space
  pub configuration : Configuration
  pub accepts : AcceptsReportInputs inputs space configuration
  pub whole : AreDeclaredWhole inputs.alphabet space (One configuration) space.labels
  pub reports : IsEndsReport inputs.alphabet space configuration names inputs.form report

-- What is said is refused at this place for a label that the universe file declares; or no such
-- label lacks a value, and no universe can be made, or the search was cut off at a route.
-- Source: own choice.
-- Example: if the universe file lacks a value of a label, and there is no room for the labels that
-- the routes ask about, the refusal is `incomplete`.
abbrev pub IsUnmadeRefusal : Alphabet → Space → Configuration → Place → Refusal → Type 0
IsUnmadeRefusal a s c place r =
    IsDeclaredRefusal a s (One c) place r
    ⊎ (AreDeclaredWhole a s (One c) s.labels
    × (IsMadeRefusal a s.impossible (One c) place r
    ⊎ ((path : List ℕ) × IsCutOff places.Config path place r)))

-- The inputs are accepted, and what they say is refused at this place.
abbrev pub RefusesRoutes : ReportInputs → Place → Refusal → Type 0
RefusesRoutes inputs place r =
    (s : Space) × (c : Configuration) × AcceptsReportInputs inputs s c
    × IsUnmadeRefusal inputs.alphabet s c place r

-- What `routes` owes, if receivers with these names are asked about.
-- Source: own choice.
-- Example: if the universe file lacks a value of a label, and a name is that of no receiver, the
-- first fault is `unknown-receiver`.
abbrev pub routes_promise : ReportInputs → List (List ℕ) → Promise ⊤
routes_promise inputs names = record {
  stages = report_input_stages inputs
      ++ receivers_stage inputs.config names ∷ later_stages matcher_places (RefusesRoutes inputs);
  May = λ _. ReportsRoutes inputs names;
}
