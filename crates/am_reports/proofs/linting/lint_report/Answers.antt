-- What is said about the space without labels is true of the space that was read.
use Rattle.std.proofs.Common.{◌≡◌, ◌≢◌, List, length, map, option_map, refl, ap, ◌∙◌, inl, inr}
use Rattle.std.proofs.Common.{subst, sym, Option, Some, None, IfSome, option_copied}
use Rattle.std.specs.List.{AllByRecursion, range_with_len}
use Rattle.std.proofs.lemmas.Option.{none-some, same_Some}
use Rattle.std.proofs.lemmas.List.FromFn.{length-range_with_len}
use Rattle.std.proofs.lemmas.Slice.Zip.{AllZip-long}
use Rattle.am_universe.specs.declared.fault.Fault.{Fault}
use Rattle.am_universe.specs.declared.kind.Kind.TheVariants as kinds
use Rattle.am_universe.specs.Universe.{sizes}
use Rattle.am_labels.specs.Matcher.{Matcher}
use Rattle.am_labels.specs.Space.{Space}
use Rattle.am_json.specs.Reading.{refusal_of}
use Rattle.am_alerting_rules.specs.RulesFile.{AlertingRule}
use Rattle.am_config.specs.ConfigFile.{Configuration}
use Rattle.am_eval.specs.World.{World}
use Rattle.am_files.proofs.FirstFaults.{handed_on}
use Rattle.am_classes.specs.declared.alphabet.Alphabet.{Alphabet}
use Rattle.am_outcomes.specs.Configurations.{One}
use Rattle.am_firing.specs.Reach.{Reached, reached_view}
use Rattle.am_firing.specs.declared.reached as declared
use Rattle.am_lint.specs.FoundView.{IsShown, said_of}
use Rattle.am_idle.specs.Rules.{IsRuleFinding}
use Rattle.am_idle.specs.RuleLines.{rule_lines, HasPositionsIfAny}
use Rattle.am_idle.specs.Silences.{IsSilenceFinding}
use Rattle.am_idle.specs.SilenceLines.{silence_lines}
use Rattle.am_idle.proofs.RuleAlerts.{positions_told}
use Rattle.am_reports.specs.FoundLines.{found_lines}
use Rattle.am_reports.specs.declared.linting.Findings.{Findings}
use Rattle.am_reports.specs.LintLines.{each_lines}
use Rattle.am_reports.specs.Linting.{IsLintRefusal}
use Rattle.am_reports.specs.RulesReach.{AreReachedIfAny, AreSides, fixed_sets}
use Rattle.am_reports.proofs.EachLine.{zip_so}
use Rattle.am_asked.specs.Made.{undeclared}
use Rattle.am_reports.specs.Made.{IsRoutesRefusal, AreDeclaredWhole}
use Rattle.am_reports.proofs.linting.lint_report.Goals as goal
use Rattle.am_reports.proofs.linting.lint_report.Goals.{After-undeclare, In_ok-routes}
use Rattle.am_reports.proofs.linting.lint_report.Goals.{In_ok-rules, In_ok-silences}
use Rattle.am_reports.proofs.linting.lint_report.Goals.{In_ok-check_declared, After-rules}

-- a fault is one that the contract allows
abbrev IsRefused : Alphabet → Space → World → Option (List AlertingRule) → Fault → Type 0
IsRefused a s w rules f = f.kind ≢ kinds.Memory → IsLintRefusal a s w rules f.place (refusal_of f)

-- the space without its labels, at first, behind the routes, the rules and the silences
cleared : (c : After-undeclare) → c.undeclare.new.self ≡ undeclared c.args.space.now
cleared c = λ i. record {
  labels = c.undeclare.ensures.labels i;
  impossible = c.undeclare.ensures.impossible i;
}

routes_cleared : (c : In_ok-routes) → c.route_findings.new.space ≡ undeclared c.args.space.now
routes_cleared c = λ i. record {
  labels = c.in_ok-routes.ensures.labels i;
  impossible = (c.in_ok-routes.ensures.impossible ∙ c.undeclare.ensures.impossible) i;
}

rules_cleared : (c : In_ok-rules) → c.rule_findings.new.space ≡ undeclared c.args.space.now
rules_cleared c = λ i. record {
  labels = c.in_ok-rules.ensures.labels i;
  impossible = (c.in_ok-rules.ensures.impossible ∙ c.in_ok-routes.ensures.impossible
      ∙ c.undeclare.ensures.impossible) i;
}

silences_cleared : (c : In_ok-silences)
    → c.silence_findings.new.space ≡ undeclared c.args.space.now
silences_cleared c = λ i. record {
  labels = c.in_ok-silences.ensures.labels i;
  impossible = (c.in_ok-silences.ensures.impossible ∙ c.in_ok-rules.ensures.impossible
      ∙ c.in_ok-routes.ensures.impossible ∙ c.undeclare.ensures.impossible) i;
}

listed : (c : After-rules) → c.rules.result.now ≡ c.args.world.now.config.rules
listed c = c.rules.ensures.rules ∙ ap (λ (x : Configuration). x.rules) c.config-3.ensures.config

-- no label that the universe file declares lacks a value
declared_whole : (c : In_ok-check_declared) → AreDeclaredWhole c.args.alphabet c.args.space.now
    (One c.args.world.now.config) c.args.space.now.labels
declared_whole c = rw c.config.ensures.config at c.in_ok-check_declared.ensures.whole

-- what is reached is of each receiver and of each rule
module _ (a : Alphabet) (s : Space) (c : Configuration) where
  abbrev Reach : Type 0
  Reach = declared.Reached.Reached

  as_many_receivers : (rules : Option (List AlertingRule)) (reached : Option Reach)
      → AreReachedIfAny a s c rules (option_map reached_view reached)
      → IfSome reached (λ r. length r.receivers.items ≡ length c.receivers)
  as_many_receivers rules None are = tt
  as_many_receivers None (Some r) are = absurd (none-some (reached_view r) (sym are))
  as_many_receivers (Some rules) (Some r) (one, same, are) =
      ap (λ (o : Reached). length o.receivers) (same_Some (reached_view r) one same)
      ∙ AllZip-long _ (range_with_len 0 (length c.receivers)) one.receivers are.receivers
      ∙ length-range_with_len 0 (length c.receivers)

  as_many_sides : (rules : Option (List AlertingRule)) (reached : Option Reach)
      → AreReachedIfAny a s c rules (option_map reached_view reached)
      → IfSome reached (λ r. length r.sides.items ≡ length c.rules)
  as_many_sides rules None are = tt
  as_many_sides None (Some r) are = absurd (none-some (reached_view r) (sym are))
  as_many_sides (Some rules) (Some r) (one, same, are) =
      ap (λ (o : Reached). length o.sides) (same_Some (reached_view r) one same)
      ∙ AllZip-long (AreSides a s rules) c.rules one.sides are.sides

pub returns-in_err-check_declared-clause-refused : goal.returns-in_err-check_declared-clause-refused
returns-in_err-check_declared-clause-refused c =
    handed_on
    (IsRefused c.args.alphabet c.args.space.now c.args.world.now (option_copied c.args.alerting))
    c.in_err-check_declared.field-0.0 c.from_residual.result c.from_residual.ensures.1
    (λ remembered. inl (rw c.config.ensures.config
    at (c.in_err-check_declared.ensures.refused remembered)))

pub returns-in_err-routes-clause-refused : goal.returns-in_err-routes-clause-refused
returns-in_err-routes-clause-refused c =
    let at = goal.at.returns-in_err-routes-clause-refused c in
    let fault = c.in_err-routes.field-0.0 in
    handed_on
    (IsRefused c.args.alphabet c.args.space.now c.args.world.now (option_copied c.args.alerting))
    fault c.from_residual-in_err-routes.result c.from_residual-in_err-routes.ensures.1
    (λ remembered. inr (
      declared_whole at.In_ok-check_declared,
      inl (subst (λ (x : List (List Matcher) × Configuration).
          IsRoutesRefusal c.args.alphabet x.0 x.1 fault.place (refusal_of fault))
          (λ i. (c.undeclare.ensures.impossible i, c.config-2.ensures.config i))
          (c.in_err-routes.ensures.refused remembered)),
    ))

pub returns-in_err-rules-clause-refused : goal.returns-in_err-rules-clause-refused
returns-in_err-rules-clause-refused c =
    let at = goal.at.returns-in_err-rules-clause-refused c in
    handed_on
    (IsRefused c.args.alphabet c.args.space.now c.args.world.now (option_copied c.args.alerting))
    c.in_err-rules.field-0.0 c.from_residual-in_err-rules.result
    c.from_residual-in_err-rules.ensures.1
    (λ remembered. inr (
      declared_whole at.In_ok-check_declared,
      inr (inl (rw (routes_cleared at.In_ok-routes, listed at.After-rules)
          at (c.in_err-rules.ensures.refused remembered))),
    ))

pub returns-in_err-silences-clause-refused : goal.returns-in_err-silences-clause-refused
returns-in_err-silences-clause-refused c =
    let at = goal.at.returns-in_err-silences-clause-refused c in
    handed_on
    (IsRefused c.args.alphabet c.args.space.now c.args.world.now (option_copied c.args.alerting))
    c.in_err-silences.field-0.0 c.from_residual-in_err-silences.result
    c.from_residual-in_err-silences.ensures.1
    (λ remembered. inr (
      declared_whole at.In_ok-check_declared,
      inr (inr (inl (rw (rules_cleared at.In_ok-rules)
          at (c.in_err-silences.ensures.refused remembered)))),
    ))

pub returns-in_err-reached-clause-refused : goal.returns-in_err-reached-clause-refused
returns-in_err-reached-clause-refused c =
    let at = goal.at.returns-in_err-reached-clause-refused c in
    handed_on
    (IsRefused c.args.alphabet c.args.space.now c.args.world.now (option_copied c.args.alerting))
    c.in_err-reached.field-0.0 c.from_residual-in_err-reached.result
    c.from_residual-in_err-reached.ensures.1
    (λ remembered. inr (
      declared_whole at.In_ok-check_declared,
      inr (inr (inr (rw (silences_cleared at.In_ok-silences, c.config-4.ensures.config)
          at (c.in_err-reached.ensures.refused remembered)))),
    ))

pub reached_if_any-requires-clause-labels : goal.reached_if_any-requires-clause-labels
reached_if_any-requires-clause-labels c = c.in_ok-silences.ensures.labels

pub report_of-requires : goal.report_of-requires
report_of-requires c =
    let at = goal.at.report_of-requires c in
    let a = c.args.alphabet in
    let s = c.route_findings.new.space in
    let w = c.args.world.now in
    let found = c.in_ok-routes.routes in
    let rules = c.in_ok-rules.rules.items in
    let silences = c.in_ok-silences.silences.items in
    let after = c.silence_findings.new.space in
    let alerting = option_copied c.args.alerting in
    let reached : AreReachedIfAny a after w.config alerting
    (option_map reached_view c.in_ok-reached.reached) =
    subst (λ (config : Configuration). AreReachedIfAny a after config alerting
    (option_map reached_view c.in_ok-reached.reached)) c.config-4.ensures.config
    c.in_ok-reached.ensures.reached in
    record {
      shown = subst (λ (config : Configuration). AllByRecursion
          (IsShown (sizes found.universe) config) found.routes.items)
          c.config-2.ensures.config c.in_ok-routes.ensures.shown;
      receivers = subst (λ (config : Configuration).
          length found.receivers.items ≡ length config.receivers)
          c.config-2.ensures.config c.in_ok-routes.ensures.each;
      rules = AllZip-long (IsRuleFinding a s) c.rules.result.now rules c.in_ok-rules.ensures.found
          ∙ ap length (listed at.After-rules);
      positions = rw (← listed at.After-rules)
          (zip_so (IsRuleFinding a s) HasPositionsIfAny (positions_told a s) c.rules.result.now
          rules c.in_ok-rules.ensures.found);
      silences = AllZip-long (IsSilenceFinding a c.rule_findings.new.space w
          (option_map (λ a. a.now) c.args.alerts)) w.silences silences
          c.in_ok-silences.ensures.found;
      reached_receivers = as_many_receivers a after w.config alerting c.in_ok-reached.reached
          reached;
      reached_sides = as_many_sides a after w.config alerting c.in_ok-reached.reached reached;
    }

pub returns-in-Ok-clause-reports : goal.returns-in-Ok-clause-reports
returns-in-Ok-clause-reports c =
    let at = goal.at.returns-in-Ok-clause-reports c in
    let w = c.args.world.now in
    let rules = c.in_ok-rules.rules.items in
    let silences = c.in_ok-silences.silences.items in
    let alerts = option_map (λ a. a.now) c.args.alerts in
    let found : Findings = record {
      routes = c.in_ok-routes.routes;
      rules = c.in_ok-rules.rules;
      silences = c.in_ok-silences.silences;
      reached = c.in_ok-reached.reached;
    } in
    record {
      whole = declared_whole at.In_ok-check_declared;
      lines = found_lines found alerts (fixed_sets (option_copied c.args.alerting)) w;
      are = record {
        found_routes = map said_of c.in_ok-routes.routes.routes.items;
        found_receivers = c.in_ok-routes.routes.receivers.items;
        routes = _;
        says_of_routes = rw (c.config-2.ensures.config, cleared at.After-undeclare)
            at c.in_ok-routes.ensures.says;
        rules = each_lines rule_lines w.config.rules rules;
        says_of_rules = record {
          found = rules;
          each = rw (routes_cleared at.In_ok-routes, listed at.After-rules)
              at c.in_ok-rules.ensures.found;
          lines_are = refl;
        };
        silences = each_lines silence_lines w.silences silences;
        says_of_silences = record {
          found = silences;
          each = rw (rules_cleared at.In_ok-rules) at c.in_ok-silences.ensures.found;
          lines_are = refl;
        };
        reached = option_map reached_view c.in_ok-reached.reached;
        are_reached = rw (silences_cleared at.In_ok-silences, c.config-4.ensures.config)
            at c.in_ok-reached.ensures.reached;
        lines_are = refl;
      };
      counted = c.in-Ok.ensures.findings;
      text = c.in-Ok.ensures.text;
    }
