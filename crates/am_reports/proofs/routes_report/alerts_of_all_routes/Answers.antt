-- What is checked, made and found is true of the space that was passed.
use Rattle.std.proofs.Common.{◌≡◌, ◌≢◌, ◌∙◌, subst, inl, inr, map}
use Rattle.std.specs.Prelude.{option_copied}
use Rattle.am_universe.specs.declared.kind.Kind.TheVariants as kinds
use Rattle.am_universe.specs.declared.fault.Fault.{Fault}
use Rattle.am_labels.specs.Space.{Space}
use Rattle.am_json.specs.Reading.{refusal_of}
use Rattle.am_config.specs.ConfigFile.{Configuration}
use Rattle.am_config.specs.ConfigView.{config_view}
use Rattle.am_eval.specs.Reaching.{IsSetOf}
use Rattle.am_files.proofs.FirstFaults.{handed_on}
use Rattle.am_classes.specs.declared.alphabet.Alphabet.{Alphabet}
use Rattle.am_every_alert.specs.Deciding.{space_of}
use Rattle.am_route_alerts.specs.RouteAlerts.{AreRouteAlerts}
use Rattle.am_route_alerts.specs.FoundView.{route_alerts_view}
use Rattle.am_route_alerts.proofs.RouteAlertsOver.{route_alerts_over}
use Rattle.am_reports.specs.RoutesReport.{IsUnmadeRefusal}
use Rattle.am_reports.specs.Made.{StandsForAll}
use Rattle.am_outcomes.specs.Configurations.{One}
use Rattle.am_reports.proofs.routes_report.alerts_of_all_routes.Goals as goal
use Rattle.am_reports.proofs.routes_report.alerts_of_all_routes.Goals.{After-declare-2}

-- the space over which alerts are found
made : (c : After-declare-2)
    → c.declare-2.new.self ≡ space_of c.args.space.now.impossible c.in_ok-universe.universe
made c = λ i. record {
  labels = c.declare-2.ensures.labels i;
  impossible = (c.declare-2.ensures.impossible ∙ c.declare.ensures.impossible) i;
}

-- a fault is one that the contract allows
abbrev IsRefused : Alphabet → Space → Configuration → Fault → Type 0
IsRefused a s c f = f.kind ≢ kinds.Memory → IsUnmadeRefusal a s c f.place (refusal_of f)

pub returns-in_err-check_declared-clause-refused : goal.returns-in_err-check_declared-clause-refused
returns-in_err-check_declared-clause-refused c =
    handed_on (IsRefused c.args.alphabet c.args.space.now (config_view c.args.config.now))
    c.in_err-check_declared.field-0.0 c.from_residual.result c.from_residual.ensures.1
    (λ remembered. inl (c.in_err-check_declared.ensures.refused remembered))

pub returns-in_err-universe-clause-refused : goal.returns-in_err-universe-clause-refused
returns-in_err-universe-clause-refused c =
    handed_on (IsRefused c.args.alphabet c.args.space.now (config_view c.args.config.now))
    c.in_err-universe.field-0.0 c.from_residual-in_err-universe.result
    c.from_residual-in_err-universe.ensures.1
    (λ remembered. inr (
      c.in_ok-check_declared.ensures.whole,
      inl (rw c.declare.ensures.impossible at (c.in_err-universe.ensures.refused remembered)),
    ))

pub returns-in-Err-clause-refused : goal.returns-in-Err-clause-refused
returns-in-Err-clause-refused c = λ remembered.
    inr (c.in_ok-check_declared.ensures.whole, inr (c.fault_of.ensures.refusal remembered))

pub returns-in-Ok-clause-are : goal.returns-in-Ok-clause-are
returns-in-Ok-clause-are c =
    let at = (goal.at.returns-in-Ok-clause-are c).After-declare-2 in
    let s = c.args.space.now in
    let config = config_view c.args.config.now in
    let over : StandsForAll c.args.alphabet s.impossible (One config) c.in_ok-universe.universe =
    rw c.declare.ensures.impossible at c.in_ok-universe.ensures.stands in
    route_alerts_over c.args.alphabet (space_of s.impossible c.in_ok-universe.universe) config
    (option_copied c.args.receivers) (map route_alerts_view c.in-Ok.found.items) over.stands
    (subst (λ (t : Space). AreRouteAlerts (IsSetOf t) config (option_copied c.args.receivers)
    (map route_alerts_view c.in-Ok.found.items)) (made at) c.in-Ok.ensures.alerts)
