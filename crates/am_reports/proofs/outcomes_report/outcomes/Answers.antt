-- The faults of the inputs come first, and the report is what is written.
use Rattle.std.proofs.Common.{refl, sym, ap, string_bytes}
use Rattle.am_json.specs.Reading.{refusal_of}
use Rattle.am_config.specs.ConfigView.{config_view}
use Rattle.am_files.proofs.FirstFaults.{first_of_more}
use Rattle.am_files.proofs.Promises.{refused, written, nothing_told}
use Rattle.am_every_alert.specs.Deciding.{space_of}
use Rattle.am_files.specs.Faults.{later_stages}
use Rattle.am_asked.specs.OriginPointer.{matcher_places}
use Rattle.am_reports.specs.ReportInputs.{ReportInputs, report_input_stages}
use Rattle.am_reports.specs.OutcomesReport.{outcomes_promise, RefusesOutcomes}
use Rattle.am_reports.proofs.LaterFaults.{outcomes_refused}
use Rattle.am_reports.proofs.outcomes_report.outcomes.Goals as goal

pub returns-in_err-read : goal.returns-in_err-read
returns-in_err-read g c =
    let fault = c.in_err-read.field-0.0 in
    let inputs = c.args.inputs.now in
    record {
      kept = refused (outcomes_promise inputs) fault c.from_residual.result refl
          c.from_residual.ensures.1
          (λ remembered. first_of_more (report_input_stages inputs)
          (later_stages matcher_places (RefusesOutcomes inputs)) fault.place (refusal_of fault)
          (c.in_err-read.ensures.first remembered));
    }

pub returns-in_err-outcomes : goal.returns-in_err-outcomes
returns-in_err-outcomes g c =
    let fault = c.in_err-outcomes.field-0.0 in
    let inputs = c.args.inputs.now in
    let s = c.in_ok-read.read.space in
    let config = config_view c.in_ok-read.read.config in
    record {
      kept = refused (outcomes_promise inputs) fault c.from_residual-in_err-outcomes.result refl
          c.from_residual-in_err-outcomes.ensures.1
          (λ remembered. outcomes_refused inputs s config fault.place (refusal_of fault)
          c.in_ok-read.ensures.accepts (rw (ap (λ (i : ReportInputs). i.alphabet) c.inputs.view_is)
          at (c.in_err-outcomes.ensures.refused remembered)));
    }

pub outcomes_report-requires : goal.outcomes_report-requires
outcomes_report-requires g c =
    let u = c.all_outcomes.new.space.labels in (
      space_of c.in_ok-read.read.space.impossible u,
      sym c.universe-universe.ensures.labels,
      c.in_ok-outcomes.ensures.are.order,
    )

pub returns : goal.returns
returns g c =
    let inputs = c.args.inputs.now in
    let s = c.in_ok-read.read.space in
    let config = config_view c.in_ok-read.read.config in
    let over = ap (λ (i : ReportInputs). i.alphabet) c.inputs.view_is in
    let formed = ap (λ (i : ReportInputs). i.form) c.inputs.view_is in
    record {
      kept = written (outcomes_promise inputs) tt (string_bytes c.in-Ok-written.text)
          c.put_str.result c.answer_of_write.result
          (record {
            space = s;
            configuration = config;
            accepts = c.in_ok-read.ensures.accepts;
            whole = rw over at c.in_ok-outcomes.ensures.whole;
            reports = record {
              labels = c.all_outcomes.new.space.labels;
              outcomes = c.in_ok-outcomes.outcomes;
              are = rw over at c.in_ok-outcomes.ensures.are;
              text = rw (formed, c.in-Ok.ensures.report, c.universe-universe.ensures.labels)
                  at c.in-Ok-written.ensures.written;
            };
          })
          (nothing_told c.put_str.result) (rw (← c.as_str.ensures.value) c.put_str.ensures.written)
          c.answer_of_write.ensures.answer;
    }
