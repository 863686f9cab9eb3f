-- The faults of the inputs come first, and the report is what is written.
use Rattle.std.proofs.Common.{◌∷◌, map, Some, refl, ap, ◌∙◌, string_bytes}
use Rattle.std.specs.Prelude.{option_copied}
use Rattle.am_json.specs.Reading.{refusal_of}
use Rattle.am_config.specs.ConfigView.{config_view}
use Rattle.am_files.proofs.FirstFaults.{first_of_more}
use Rattle.am_files.proofs.Promises.{refused, written, nothing_told}
use Rattle.am_files.specs.Faults.{later_stages}
use Rattle.am_asked.specs.OriginPointer.{matcher_places}
use Rattle.am_every_alert.specs.EveryAlert.{IsAlertOf}
use Rattle.am_route_alerts.specs.FoundView.{route_alerts_view}
use Rattle.am_route_alerts.proofs.ReceiverLines.{receivers_declared}
use Rattle.am_reports.specs.ReportInputs.{ReportInputs, report_input_stages}
use Rattle.am_reports.specs.AskedReceivers.{AreAsked, receivers_stage}
use Rattle.am_reports.specs.RoutesReport.{routes_promise, RefusesRoutes}
use Rattle.am_reports.proofs.AskedNames.{none_asked, some_asked}
use Rattle.am_reports.proofs.LaterFaults.{names_refused, routes_refused}
use Rattle.am_reports.proofs.routes_report.routes.Goals as goal
use Rattle.am_reports.proofs.routes_report.routes.Goals.{then-is_empty, else-is_empty}

pub returns-in_err-read : goal.returns-in_err-read
returns-in_err-read g c =
    let fault = c.in_err-read.field-0.0 in
    let inputs = c.args.inputs.now in
    let names = map (λ name. name.now) c.args.receivers.now in
    record {
      kept = refused (routes_promise inputs names) fault c.from_residual.result refl
          c.from_residual.ensures.1
          (λ remembered. first_of_more (report_input_stages inputs)
          (receivers_stage inputs.config names
          ∷ later_stages matcher_places (RefusesRoutes inputs)) fault.place (refusal_of fault)
          (c.in_err-read.ensures.first remembered));
    }

pub returns-in_err-positions : goal.returns-in_err-positions
returns-in_err-positions g c =
    let fault = c.in_err-positions.field-0.0 in
    let inputs = c.args.inputs.now in
    let names = map (λ name. name.now) c.args.receivers.now in
    let s = c.in_ok-read.read.space in
    let config = config_view c.in_ok-read.read.config in
    record {
      kept = refused (routes_promise inputs names) fault
          c.from_residual-in_err-positions.result refl
          c.from_residual-in_err-positions.ensures.1
          (λ remembered.
          let unknown = c.in_err-positions.ensures.refused remembered in
          names_refused inputs names s config fault.place (refusal_of fault)
          c.in_ok-read.ensures.accepts unknown.0 unknown.1);
    }

pub returns-in_err-found : goal.returns-in_err-found
returns-in_err-found g c =
    let fault = c.in_err-found.field-0.0 in
    let inputs = c.args.inputs.now in
    let names = map (λ name. name.now) c.args.receivers.now in
    let s = c.in_ok-read.read.space in
    let config = config_view c.in_ok-read.read.config in
    record {
      kept = refused (routes_promise inputs names) fault c.from_residual-in_err-found.result refl
          c.from_residual-in_err-found.ensures.1
          (λ remembered. routes_refused inputs names s config c.in_ok-positions.positions.items
          fault.place (refusal_of fault) c.in_ok-read.ensures.accepts
          c.in_ok-positions.ensures.positions
          (rw (ap (λ (i : ReportInputs). i.alphabet) c.inputs.view_is)
          at (c.in_err-found.ensures.refused remembered)));
    }

pub routes_report-requires : goal.routes_report-requires
routes_report-requires g c =
    receivers_declared (IsAlertOf c.inputs.inside.alphabet c.in_ok-read.read.space)
    (config_view c.in_ok-read.read.config) (option_copied c.if-is_empty.asked)
    c.in_ok-found.found.items c.in_ok-read.read.config.sound c.in_ok-found.ensures.are

pub returns : goal.returns
returns g c =
    let inputs = c.args.inputs.now in
    let names = map (λ name. name.now) c.args.receivers.now in
    let s = c.in_ok-read.read.space in
    let config = config_view c.in_ok-read.read.config in
    let over = ap (λ (i : ReportInputs). i.alphabet) c.inputs.view_is in
    let formed = ap (λ (i : ReportInputs). i.form) c.inputs.view_is in
    let asked : AreAsked config names (option_copied c.if-is_empty.asked) =
    elim c.if-is_empty.branch [
      | then-is_empty w ↦
          none_asked config c.args.receivers.now (option_copied c.if-is_empty.asked)
          w.if-is_empty.ensures (ap option_copied w.asked-is)
      | else-is_empty w ↦
          some_asked config c.args.receivers.now (option_copied c.if-is_empty.asked)
          c.in_ok-positions.positions.items w.if-is_empty.ensures
          c.in_ok-positions.ensures.positions
          (ap option_copied w.asked-is ∙ ap Some w.as_slice.ensures.value)
    ] in
    record {
      kept = written (routes_promise inputs names) tt (string_bytes c.in-Ok-written.text)
          c.put_str.result c.answer_of_write.result
          (record {
            space = s;
            configuration = config;
            accepts = c.in_ok-read.ensures.accepts;
            whole = rw over at c.in_ok-found.ensures.whole;
            reports = record {
              receivers = option_copied c.if-is_empty.asked;
              asked = asked;
              routes = map route_alerts_view c.in_ok-found.found.items;
              are = rw over at c.in_ok-found.ensures.are;
              text = rw (formed, c.in-Ok.ensures.report) at c.in-Ok-written.ensures.written;
            };
          })
          (nothing_told c.put_str.result) (rw (← c.as_str.ensures.value) c.put_str.ensures.written)
          c.answer_of_write.ensures.answer;
    }
