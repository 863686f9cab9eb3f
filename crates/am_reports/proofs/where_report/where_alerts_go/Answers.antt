-- The faults of the inputs come first, and the report is what is written.
use Rattle.std.proofs.Common.{◌≡◌, [], ◌∷◌, List, Some, map, refl, sym, ap, ◌∙◌, subst, string_bytes}
use Rattle.std.specs.Prelude.{option_copied, unwrap_or}
use Rattle.std.proofs.lemmas.List.{length-map}
use Rattle.am_labels.proofs.RowLemmas.{unwrapped}
use Rattle.am_json.specs.Reading.{refusal_of}
use Rattle.am_config.specs.ConfigFile.{Configuration}
use Rattle.am_config.specs.ConfigView.{config_view}
use Rattle.am_files.proofs.FirstFaults.{first_of_more}
use Rattle.am_files.proofs.Promises.{refused, written, nothing_told}
use Rattle.am_files.specs.Faults.{later_stages}
use Rattle.am_files.specs.Files.{config_of}
use Rattle.am_asked.specs.OriginPointer.{matcher_places}
use Rattle.am_alerting_rules.specs.RulesFile.{AlertingRule}
use Rattle.am_classes.specs.declared.alphabet.Alphabet.{Alphabet}
use Rattle.am_outcomes.specs.Configurations.{Configurations, Silenced, silences_view}
use Rattle.am_rule_outcomes.specs.NarrowingView.{rule_outcomes_view}
use Rattle.am_rule_outcomes.specs.RuleOutcomes.{with_outcomes}
use Rattle.am_reports.specs.AskedReceivers.{AreAsked, ArePositions, IsUnknownReceiver, receivers_stage}
use Rattle.am_reports.specs.Made.{AreDeclaredWhole}
use Rattle.am_reports.specs.RulesOutcomes.{AreFoundFor, IsRulesRefusal}
use Rattle.am_reports.specs.WorldInputs.{WorldInputs, world_input_stages}
use Rattle.am_reports.specs.WhereReport.{where_promise, RefusesWhere, silenced_by}
use Rattle.am_reports.proofs.AskedNames.{none_asked, some_asked}
use Rattle.am_reports.proofs.LaterFaults.{where_names_refused, where_refused}
use Rattle.am_reports.proofs.RuleNames.{named_in_any, texts_in_any}
use Rattle.am_reports.proofs.RulesOutcomes.{all_have, as_long, receivers_first}
use Rattle.am_reports.proofs.where_report.where_alerts_go.Given.{Over}
use Rattle.am_reports.proofs.where_report.where_alerts_go.Goals as goal
use Rattle.am_reports.proofs.where_report.where_alerts_go.Goals.{After-outcomes_of_all_rules, then-is_empty, else-is_empty}

-- what is asked about, and that it is what the inputs and the files say
abbrev Asked : Type 0
Asked = Alphabet × Configurations × List AlertingRule

asked_so : (g : Over) (c : After-outcomes_of_all_rules g)
    → Path Asked (
      c.inputs.inside.alphabet,
      Silenced (config_view c.config-config.result.now) (silences_view c.as_slice-2.result.now),
      c.unwrap_or-rules.result.now,
    ) (
      c.args.inputs.now.alphabet,
      silenced_by c.in_ok-read.read.world,
      unwrap_or c.in_ok-read.read.rules [],
    )
asked_so g c =
    let silences = ap silences_view c.as_slice-2.ensures.value ∙ c.in-Ok.ensures in
    let rules : c.unwrap_or-rules.result.now ≡ unwrap_or c.in_ok-read.read.rules [] =
    ap (λ r. r.now) c.unwrap_or-rules.ensures ∙ unwrapped (λ r. r.now) c.rules_if_any.result _
    ∙ ap (λ rs. unwrap_or rs []) c.rules_if_any.ensures in
    λ i. (
      (c.inputs.view_is i).alphabet,
      Silenced (c.config-config.ensures.config i) (silences i),
      rules i,
    )

pub returns-in_err-read : goal.returns-in_err-read
returns-in_err-read g c =
    let fault = c.in_err-read.field-0.0 in
    let inputs = c.args.inputs.now in
    let names = map (λ name. name.now) c.args.receivers.now in
    record {
      kept = refused (where_promise inputs names) fault c.from_residual.result refl
          c.from_residual.ensures.1
          (λ remembered. first_of_more (world_input_stages inputs)
          (receivers_stage (config_of inputs.files.config) names
          ∷ later_stages matcher_places (RefusesWhere inputs)) fault.place (refusal_of fault)
          (c.in_err-read.ensures.first remembered));
    }

pub returns-in_err-positions : goal.returns-in_err-positions
returns-in_err-positions g c =
    let fault = c.in_err-positions.field-0.0 in
    let inputs = c.args.inputs.now in
    let names = map (λ name. name.now) c.args.receivers.now in
    let read = c.in_ok-read.read in
    record {
      kept = refused (where_promise inputs names) fault
          c.from_residual-in_err-positions.result refl
          c.from_residual-in_err-positions.ensures.1
          (λ remembered.
          let unknown = c.in_err-positions.ensures.refused remembered in
          where_names_refused inputs read.space read.world read.rules c.in_ok-read.ensures.accepts
          fault.place (refusal_of fault) names unknown.0
          (subst (λ (k : Configuration). IsUnknownReceiver k names (refusal_of fault))
          c.config-config.ensures.config unknown.1));
    }

pub returns-in_err-found : goal.returns-in_err-found
returns-in_err-found g c =
    let fault = c.in_err-found.field-0.0 in
    let inputs = c.args.inputs.now in
    let names = map (λ name. name.now) c.args.receivers.now in
    let read = c.in_ok-read.read in
    let at = (goal.at.returns-in_err-found g c).After-outcomes_of_all_rules in
    record {
      kept = refused (where_promise inputs names) fault c.from_residual-in_err-found.result refl
          c.from_residual-in_err-found.ensures.1
          (λ remembered. where_refused inputs read.space read.world read.rules
          c.in_ok-read.ensures.accepts fault.place (refusal_of fault) names
          c.in_ok-positions.positions.items
          (subst (λ (k : Configuration). ArePositions k names c.in_ok-positions.positions.items)
          c.config-config.ensures.config c.in_ok-positions.ensures.positions)
          (subst (λ (asked : Asked).
          IsRulesRefusal asked.0 read.space asked.1 asked.2 fault.place (refusal_of fault))
          (asked_so g at) (c.in_err-found.ensures.refused remembered)));
    }

pub where_report-requires-clause-each : goal.where_report-requires-clause-each
where_report-requires-clause-each g c =
    let found = c.in_ok-found.found in
    sym (length-map found.of_rules.items _)
    ∙ as_long c.inputs.inside.alphabet c.in_ok-read.read.space.impossible
    (Silenced (config_view c.config-config.result.now) (silences_view c.as_slice-2.result.now))
    c.unwrap_or-rules.result.now (rule_outcomes_view found) c.in_ok-found.ensures.found

pub returns : goal.returns
returns g c =
    let inputs = c.args.inputs.now in
    let names = map (λ name. name.now) c.args.receivers.now in
    let read = c.in_ok-read.read in
    let rules = unwrap_or read.rules [] in
    let outcomes = rule_outcomes_view c.in_ok-found.found in
    let receivers = option_copied c.if-is_empty.asked in
    let same = asked_so g (goal.at.returns g c).After-outcomes_of_all_rules in
    let accepts = c.in_ok-read.ensures.accepts in
    let found : AreFoundFor inputs.alphabet read.space.impossible (silenced_by read.world) rules
    outcomes =
    subst (λ (asked : Asked). AreFoundFor asked.0 read.space.impossible asked.1 asked.2 outcomes) same
    c.in_ok-found.ensures.found in
    let positions : ArePositions read.world.config names c.in_ok-positions.positions.items =
    subst (λ (k : Configuration). ArePositions k names c.in_ok-positions.positions.items)
    c.config-config.ensures.config c.in_ok-positions.ensures.positions in
    let asked : AreAsked read.world.config names receivers =
    elim c.if-is_empty.branch [
      | then-is_empty w ↦
          none_asked read.world.config c.args.receivers.now receivers w.if-is_empty.ensures
          (ap option_copied w.asked-is)
      | else-is_empty w ↦
          some_asked read.world.config c.args.receivers.now receivers
          c.in_ok-positions.positions.items w.if-is_empty.ensures positions
          (ap option_copied w.asked-is ∙ ap Some w.as_slice.ensures.value)
    ] in
    record {
      kept = written (where_promise inputs names) tt (string_bytes c.in-Ok-written.text)
          c.put_str.result c.answer_of_write.result
          (record {
            space = read.space;
            world = read.world;
            rules = read.rules;
            accepts = accepts;
            whole = subst (λ (asked : Asked). AreDeclaredWhole asked.0 read.space asked.1 read.space.labels)
                same c.in_ok-found.ensures.whole;
            reports = record {
              receivers = receivers;
              asked = asked;
              outcomes = with_outcomes rules outcomes;
              each_rule = receivers_first rules outcomes
                  (as_long inputs.alphabet read.space.impossible (silenced_by read.world) rules
                  outcomes found);
              are = all_have inputs.alphabet read.space read.world rules outcomes found
                  (named_in_any inputs.rules read.rules accepts.says_rules)
                  (texts_in_any inputs.rules read.rules accepts.says_rules);
              found = outcomes;
              over = found;
              order = refl;
              text = rw (
                ap (λ (i : WorldInputs). i.form) c.inputs.view_is,
                c.in-Ok-where_report.ensures.report,
                c.config-config.ensures.config,
                ap (λ (asked : Asked). asked.2) same,
              ) at c.in-Ok-written.ensures.written;
            };
          })
          (nothing_told c.put_str.result) (rw (← c.as_str.ensures.value) c.put_str.ensures.written)
          c.answer_of_write.ensures.answer;
    }
