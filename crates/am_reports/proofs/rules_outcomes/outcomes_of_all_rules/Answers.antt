-- What is checked, made and found is true of the space that was passed.
use Rattle.std.proofs.Common.{◌≡◌, ◌≢◌, List, map, ◌∙◌, inl, inr, rules}
use Rattle.am_universe.specs.declared.kind.Kind.TheVariants as kinds
use Rattle.am_universe.specs.declared.fault.Fault.{Fault}
use Rattle.am_labels.specs.Space.{Space}
use Rattle.am_json.specs.Pointer.{refusal_here}
use Rattle.am_json.specs.Reading.{refusal_of}
use Rattle.am_files.proofs.FirstFaults.{handed_on}
use Rattle.am_alerting_rules.specs.RulesFile.{AlertingRule}
use Rattle.am_classes.specs.declared.alphabet.Alphabet.{Alphabet}
use Rattle.am_outcomes.specs.Configurations.{Configurations, configurations_of}
use Rattle.am_every_alert.specs.Deciding.{space_of}
use Rattle.am_rule_outcomes.specs.Narrowing.{rule_narrowing}
use Rattle.am_rule_outcomes.specs.NarrowingView.{narrowing_view, rule_outcomes_view}
use Rattle.am_reports.specs.Made.{StandsForAll}
use Rattle.am_reports.specs.RoutingLabels.{labels_of_routes}
use Rattle.am_reports.specs.RulesOutcomes.{IsRulesRefusal}
use Rattle.am_reports.proofs.RulesOutcomes.{found_for, too_many_for}
use Rattle.am_reports.proofs.rules_outcomes.outcomes_of_all_rules.Goals as goal
use Rattle.am_reports.proofs.rules_outcomes.outcomes_of_all_rules.Goals.{After-declare-2}

-- the space over which outcomes are found
made : (c : After-declare-2)
    → c.declare-2.new.self ≡ space_of c.args.space.now.impossible c.in_ok-universe.universe
made c = λ i. record {
  labels = c.declare-2.ensures.labels i;
  impossible = (c.declare-2.ensures.impossible ∙ c.declare.ensures.impossible) i;
}

stands : (c : After-declare-2) → StandsForAll c.args.alphabet c.args.space.now.impossible
    (configurations_of c.args.configs) c.in_ok-universe.universe
stands c = rw c.declare.ensures.impossible at c.in_ok-universe.ensures.stands

narrowed_so : (c : After-declare-2) → map narrowing_view c.in-Ok.narrowings.items
    ≡ map (rule_narrowing c.args.alphabet (labels_of_routes (configurations_of c.args.configs)
    c.args.space.now.impossible) c.in_ok-universe.universe) c.args.rules.now
narrowed_so c = rw c.declare.ensures.impossible at c.in-Ok.ensures

-- a fault is one that the contract allows
abbrev IsRefused : Alphabet → Space → Configurations → List AlertingRule → Fault → Type 0
IsRefused a s k rules f = f.kind ≢ kinds.Memory → IsRulesRefusal a s k rules f.place (refusal_of f)

pub returns-in_err-check_declared-clause-refused : goal.returns-in_err-check_declared-clause-refused
returns-in_err-check_declared-clause-refused c =
    handed_on (IsRefused c.args.alphabet c.args.space.now (configurations_of c.args.configs) c.args.rules.now)
    c.in_err-check_declared.field-0.0 c.from_residual.result c.from_residual.ensures.1
    (λ remembered. inl (c.in_err-check_declared.ensures.refused remembered))

pub returns-in_err-universe-clause-refused : goal.returns-in_err-universe-clause-refused
returns-in_err-universe-clause-refused c =
    handed_on (IsRefused c.args.alphabet c.args.space.now (configurations_of c.args.configs) c.args.rules.now)
    c.in_err-universe.field-0.0 c.from_residual-in_err-universe.result
    c.from_residual-in_err-universe.ensures.1
    (λ remembered. inr (
      c.in_ok-check_declared.ensures.whole,
      inl (rw c.declare.ensures.impossible at (c.in_err-universe.ensures.refused remembered)),
    ))

pub returns-in-Ok-Some-clause-found : goal.returns-in-Ok-Some-clause-found
returns-in-Ok-Some-clause-found c =
    let at = (goal.at.returns-in-Ok-Some-clause-found c).After-declare-2 in
    found_for c.args.alphabet c.args.space.now.impossible (configurations_of c.args.configs)
    c.in_ok-universe.universe (stands at) c.args.rules.now
    (map narrowing_view c.in-Ok.narrowings.items) (narrowed_so at) c.declare-2.new.self (made at)
    (rule_outcomes_view c.in-Ok-Some.found) (rw c.in-Ok-Some.field-0-is at c.in-Ok-Some.ensures.some)

pub returns-in-Ok-None-clause-refused : goal.returns-in-Ok-None-clause-refused
returns-in-Ok-None-clause-refused c = λ remembered.
    let at = (goal.at.returns-in-Ok-None-clause-refused c).After-declare-2 in
    let limit : refusal_of c.at.result ≡ refusal_here kinds.Limit =
    λ i. record { kind = c.at.ensures.kind i; pointer = c.at.ensures.pointer i } in
    inr (
      c.in_ok-check_declared.ensures.whole,
      inr (inl (
        search rules,
        too_many_for c.args.alphabet c.args.space.now.impossible (configurations_of c.args.configs)
            c.in_ok-universe.universe (stands at) c.args.rules.now
            (map narrowing_view c.in-Ok.narrowings.items) (narrowed_so at) c.declare-2.new.self
            (made at) (refusal_of c.at.result)
            (rw c.in-Ok-None.field-0-is at c.in-Ok-None.ensures.none) limit,
      )),
    )

pub returns-in-Err-UsedUp-clause-refused : goal.returns-in-Err-UsedUp-clause-refused
returns-in-Err-UsedUp-clause-refused c = λ remembered.
    inr (c.in_ok-check_declared.ensures.whole, inr (inr (c.routes_cut_off.ensures.refusal remembered)))
