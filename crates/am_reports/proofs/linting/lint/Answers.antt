-- The faults of the inputs come first, and the report is what is written.
use Rattle.std.proofs.Common.{Ok, refl, ap, string_bytes}
use Rattle.std.specs.Prelude.{nat_lt}
use Rattle.std.specs.Result.{result_and}
use Rattle.am_json.specs.Reading.{refusal_of}
use Rattle.am_files.proofs.FirstFaults.{first_of_more}
use Rattle.am_files.proofs.Promises.{refused, written}
use Rattle.am_reports.specs.WorldInputs.{WorldInputs, world_input_stages}
use Rattle.am_files.specs.Faults.{later_stages}
use Rattle.am_asked.specs.OriginPointer.{matcher_places}
use Rattle.am_reports.specs.Linting.{lint_promise, RefusesLint}
use Rattle.am_reports.proofs.LaterFaults.{lint_refused}
use Rattle.am_reports.proofs.WrittenBeside.{told_beside, writes_beside}
use Rattle.am_reports.proofs.RuleNames.{named_if_any, texts_if_any}
use Rattle.am_reports.proofs.linting.lint.Goals as goal

pub returns-in_err-read : goal.returns-in_err-read
returns-in_err-read g c =
    let fault = c.in_err-read.field-0.0 in
    let inputs = c.args.inputs.now in
    record {
      kept = refused (lint_promise inputs) fault c.from_residual.result refl
          c.from_residual.ensures.1
          (λ remembered. first_of_more (world_input_stages inputs)
          (later_stages matcher_places (RefusesLint inputs)) fault.place (refusal_of fault)
          (c.in_err-read.ensures.first remembered));
    }

pub returns-in_err-lint : goal.returns-in_err-lint
returns-in_err-lint g c =
    let fault = c.in_err-lint.field-0.0 in
    let inputs = c.args.inputs.now in
    let read = c.in_ok-read.read in
    record {
      kept = refused (lint_promise inputs) fault c.from_residual-in_err-lint.result refl
          c.from_residual-in_err-lint.ensures.1
          (λ remembered. lint_refused inputs read.space read.world read.rules
          c.in_ok-read.ensures.accepts fault.place (refusal_of fault)
          (rw (
            ap (λ (i : WorldInputs). i.alphabet) c.inputs.view_is,
            c.rules_if_any-alerting.ensures,
          )
          at (c.in_err-lint.ensures.refused remembered)));
    }

pub lint_report-requires-clause-names : goal.lint_report-requires-clause-names
lint_report-requires-clause-names g c =
    rw c.rules_if_any-alerting.ensures
    (named_if_any c.args.inputs.now.rules c.in_ok-read.read.rules
    c.in_ok-read.ensures.accepts.says_rules)

pub lint_report-requires-clause-texts : goal.lint_report-requires-clause-texts
lint_report-requires-clause-texts g c =
    rw c.rules_if_any-alerting.ensures
    (texts_if_any c.args.inputs.now.rules c.in_ok-read.read.rules
    c.in_ok-read.ensures.accepts.says_rules)

pub returns : goal.returns
returns g c =
    let inputs = c.args.inputs.now in
    let read = c.in_ok-read.read in
    let lint = c.in_ok-lint.lint in
    let found = nat_lt 0 lint.findings in
    let over = ap (λ (i : WorldInputs). i.alphabet) c.inputs.view_is in
    let formed = ap (λ (i : WorldInputs). i.form) c.inputs.view_is in
    record {
      kept = written (lint_promise inputs) found (string_bytes lint.text)
          (result_and c.put_str.result (Ok found)) c.answer_of_write.result
          (record {
            space = read.space;
            world = read.world;
            alerting = read.rules;
            accepts = c.in_ok-read.ensures.accepts;
            findings = lint.findings;
            is_found = refl;
            linted = rw (
              over,
              formed,
              c.alerts_if_any-alerts.ensures,
              c.rules_if_any-alerting.ensures,
            ) at c.in_ok-lint.ensures.reports;
          })
          (told_beside c.put_str.result found)
          (writes_beside c.put_str.result found
          (rw c.as_str.ensures.value at c.put_str.ensures.written))
          (rw c.and.ensures at c.answer_of_write.ensures.answer);
    }
