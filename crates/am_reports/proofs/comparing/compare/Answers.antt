-- The faults of the inputs come first, and the comparison is what is written.
use Rattle.std.proofs.Common.{Ok, IfSome, refl, sym, ap, subst, string_bytes}
use Rattle.std.specs.List.{AllByRecursion}
use Rattle.std.specs.Result.{result_and}
use Rattle.am_json.specs.Reading.{refusal_of}
use Rattle.am_config.specs.ConfigView.{whole_config_view}
use Rattle.am_files.proofs.FirstFaults.{first_of_more}
use Rattle.am_files.proofs.Promises.{refused, written}
use Rattle.am_files.specs.Faults.{later_stages}
use Rattle.am_asked.specs.OriginPointer.{matcher_places}
use Rattle.am_alerting_rules.specs.RulesFile.{HasNames}
use Rattle.am_alerting_rules.specs.RuleTexts.{HasUtf8Texts}
use Rattle.am_outcomes.specs.Configurations.{Pair}
use Rattle.am_reports.specs.CompareInputs.{CompareInputs, compare_input_stages}
use Rattle.am_reports.specs.Comparing.{Compares, IsComparisonRefusal, RefusesComparison}
use Rattle.am_reports.specs.Comparing.{compare_promise}
use Rattle.am_reports.specs.Made.{AreDeclaredWhole}
use Rattle.am_reports.proofs.LaterFaults.{comparison_refused}
use Rattle.am_reports.proofs.RuleNames.{named_if_any, texts_if_any}
use Rattle.am_reports.proofs.WrittenBeside.{told_beside, writes_beside}
use Rattle.am_reports.proofs.comparing.compare.Goals as goal
use Rattle.am_reports.proofs.comparing.compare.Goals.{in-Some+in_ok-compared-in-Some}
use Rattle.am_reports.proofs.comparing.compare.Goals.{in-None+in_ok-compared-in-None}

pub returns-in_err-read : goal.returns-in_err-read
returns-in_err-read g c =
    let fault = c.in_err-read.field-0.0 in
    let inputs = c.args.inputs.now in
    record {
      kept = refused (compare_promise inputs) fault c.from_residual.result refl
          c.from_residual.ensures.1
          (λ remembered. first_of_more (compare_input_stages inputs)
          (later_stages matcher_places (RefusesComparison inputs)) fault.place (refusal_of fault)
          (c.in_err-read.ensures.first remembered));
    }

pub comparison_of_rules-requires-clause-names : goal.comparison_of_rules-requires-clause-names
comparison_of_rules-requires-clause-names g c =
    let read = c.in_ok-read.read in
    subst (λ rs. IfSome rs (AllByRecursion HasNames)) (sym c.in-Some.ensures)
    (named_if_any c.args.inputs.now.rules read.rules c.in_ok-read.ensures.accepts.says_rules)

pub comparison_of_rules-requires-clause-texts : goal.comparison_of_rules-requires-clause-texts
comparison_of_rules-requires-clause-texts g c =
    let read = c.in_ok-read.read in
    subst (λ rs. IfSome rs (AllByRecursion HasUtf8Texts)) (sym c.in-Some.ensures)
    (texts_if_any c.args.inputs.now.rules read.rules c.in_ok-read.ensures.accepts.says_rules)

pub returns-in_err-compared-in-Some : goal.returns-in_err-compared-in-Some
returns-in_err-compared-in-Some g c =
    let fault = c.in_err-compared-in-Some.field-0.0 in
    let inputs = c.args.inputs.now in
    let read = c.in_ok-read.read in
    let old = whole_config_view read.old in
    let new = whole_config_view read.new in
    record {
      kept = refused (compare_promise inputs) fault c.from_residual-in_err-compared-in-Some.result
          refl c.from_residual-in_err-compared-in-Some.ensures.1
          (λ remembered. comparison_refused inputs read.space old new read.rules fault.place
          (refusal_of fault) c.in_ok-read.ensures.accepts
          (subst (λ rs. IsComparisonRefusal inputs.alphabet read.space
          (Pair old.config new.config) rs fault.place (refusal_of fault)) c.in-Some.ensures
          (rw (ap (λ (i : CompareInputs). i.alphabet) c.inputs.view_is)
          at (c.in_err-compared-in-Some.ensures.refused remembered))));
    }

pub returns-in_err-compared-in-None : goal.returns-in_err-compared-in-None
returns-in_err-compared-in-None g c =
    let fault = c.in_err-compared-in-None.field-0.0 in
    let inputs = c.args.inputs.now in
    let read = c.in_ok-read.read in
    let old = whole_config_view read.old in
    let new = whole_config_view read.new in
    record {
      kept = refused (compare_promise inputs) fault c.from_residual-in_err-compared-in-None.result
          refl c.from_residual-in_err-compared-in-None.ensures.1
          (λ remembered. comparison_refused inputs read.space old new read.rules fault.place
          (refusal_of fault) c.in_ok-read.ensures.accepts
          (subst (λ rs. IsComparisonRefusal inputs.alphabet read.space
          (Pair old.config new.config) rs fault.place (refusal_of fault)) c.in-None.ensures
          (rw (ap (λ (i : CompareInputs). i.alphabet) c.inputs.view_is)
          at (c.in_err-compared-in-None.ensures.refused remembered))));
    }

pub returns : goal.returns
returns g c =
    let inputs = c.args.inputs.now in
    let read = c.in_ok-read.read in
    let s = read.space in
    let rules = read.rules in
    let old = whole_config_view read.old in
    let new = whole_config_view read.new in
    let compared = c.match-rules_if_any.compared in
    let count = compared.changes in
    let text = string_bytes compared.text in
    let over = ap (λ (i : CompareInputs). i.alphabet) c.inputs.view_is in
    let formed = ap (λ (i : CompareInputs). i.form) c.inputs.view_is in
    let whole : AreDeclaredWhole inputs.alphabet s (Pair old.config new.config) s.labels =
    elim c.match-rules_if_any.branch [
      | in-Some+in_ok-compared-in-Some w ↦ rw over at w.in_ok-compared-in-Some.ensures.whole
      | in-None+in_ok-compared-in-None w ↦ rw over at w.in_ok-compared-in-None.ensures.whole
    ] in
    let compares : Compares inputs.alphabet s old new rules inputs.form count text =
    elim c.match-rules_if_any.branch [
      | in-Some+in_ok-compared-in-Some w ↦
          subst (λ rs. Compares inputs.alphabet s old new rs inputs.form count text)
          w.in-Some.ensures
          (rw (w.compared-is, ← over, ← formed) w.in_ok-compared-in-Some.ensures.compares)
      | in-None+in_ok-compared-in-None w ↦
          subst (λ rs. Compares inputs.alphabet s old new rs inputs.form count text)
          w.in-None.ensures
          (rw (w.compared-is, ← over, ← formed) w.in_ok-compared-in-None.ensures.compares)
    ] in
    record {
      kept = written (compare_promise inputs) count text
          (result_and c.put_str.result (Ok count)) c.answer_of_write.result
          (record {
            space = s;
            old = old;
            new = new;
            rules = rules;
            accepts = c.in_ok-read.ensures.accepts;
            whole = whole;
            compares = compares;
          })
          (told_beside c.put_str.result count)
          (writes_beside c.put_str.result count
          (rw c.as_str.ensures.value at c.put_str.ensures.written))
          (rw c.and.ensures at c.answer_of_write.ensures.answer);
    }
