use Rattle.std.proofs.Common.{◌≢◌, List, sym, subst}
use Rattle.std.specs.List.{AllZip}
use Rattle.am_universe.specs.declared.fault.Fault.{Fault}
use Rattle.am_universe.specs.declared.kind.Kind.TheVariants as kinds
use Rattle.am_labels.specs.Space.{Space}
use Rattle.am_json.specs.Reading.{refusal_of}
use Rattle.am_alerting_rules.specs.RulesFile.{AlertingRule}
use Rattle.am_config.specs.ConfigView.{config_view}
use Rattle.am_files.proofs.FirstFaults.{handed_on}
use Rattle.am_firing.specs.Reach.{reached_view}
use Rattle.am_classes.specs.declared.alphabet.Alphabet.{Alphabet}
use Rattle.am_idle.proofs.SilenceSteps.{same_space}
use Rattle.am_outcomes.specs.Configurations.{Configurations, Ends}
use Rattle.am_rule_outcomes.specs.NarrowingView.{rule_outcomes_view}
use Rattle.am_reports.specs.RulesOutcomes.{IsRulesRefusal}
use Rattle.am_reports.specs.RulesReach.{AreSides}
use Rattle.am_reports.proofs.RulesReached.{are_reached}
use Rattle.am_reports.proofs.rules_reach.reached_by_rules.Goals as goal

-- a fault is one that the contract allows
abbrev IsRefused : Alphabet → Configurations → List AlertingRule → Fault → Space → Type 0
IsRefused a k rules f s = f.kind ≢ kinds.Memory → IsRulesRefusal a s k rules f.place (refusal_of f)

pub returns-in_err-found-clause-refused : goal.returns-in_err-found-clause-refused
returns-in_err-found-clause-refused c =
    let a = c.args.alphabet in
    let k = Ends (config_view c.args.config.now) in
    let s = c.args.space.now in
    let fault = c.in_err-found.field-0.0 in
    handed_on (λ (f : Fault). IsRefused a k c.args.rules.now f s) fault c.from_residual.result
    c.from_residual.ensures.1
    (subst (IsRefused a k c.args.rules.now fault)
    (same_space c.sides_matched.new.space s c.in-Ok.ensures.labels c.requires.labels
    c.in-Ok.ensures.impossible) c.in_err-found.ensures.refused)

pub returns-in-Ok-reached_in-clause-reached : goal.returns-in-Ok-reached_in-clause-reached
returns-in-Ok-reached_in-clause-reached c =
    let a = c.args.alphabet in
    let s = c.args.space.now in
    let config = config_view c.args.config.now in
    let rules = c.args.rules.now in
    let reached = reached_view c.in-Ok-reached_in.reached in
    are_reached a s config rules (rule_outcomes_view c.in_ok-found.found)
    (rw c.in-Ok.ensures.impossible at c.in_ok-found.ensures.found) c.requires.names c.requires.texts
    reached c.in-Ok-reached_in.ensures.any c.in-Ok-reached_in.ensures.ends
    c.in-Ok-reached_in.ensures.receivers
    (subst (AllZip (AreSides a s rules) config.rules) (sym c.in-Ok-reached_in.ensures.sides)
    (rw c.rules.ensures.rules at c.in-Ok.ensures.each))
