use Rattle.std.proofs.Common.{◌≡◌, ◌<◌, ◌++◌, ℕ, List, Option, Some, None, length, option_map}
use Rattle.std.proofs.Common.{append-nil, sym, ap, ◌∙◌, arith}
use Rattle.std.specs.Prelude.{option_and_then, slice_get}
use Rattle.std.proofs.lemmas.List.{take_all}
use Rattle.std.proofs.lemmas.Option.{slice_get-map}
use Rattle.am_universe.proofs.LabelPairLemmas.{found_at as rule_at}
use Rattle.am_complete.proofs.LabelStates.{stands_at}
use Rattle.am_config.specs.ConfigView.{config_view}
use Rattle.am_alerting_rules.specs.RulesFile.{AlertingRule}
use Rattle.am_rule_outcomes.specs.declared.rule_outcomes.RuleOutcomes.{RuleOutcomes}
use Rattle.am_rule_outcomes.specs.NarrowingView.{narrowed_in, narrowed_of, narrowed_view}
use Rattle.am_rule_outcomes.specs.NarrowingView.{rule_outcomes_view}
use Rattle.am_rule_outcomes.specs.RuleChanges.{changes_of_rule, changes_of_rules}
use Rattle.am_rule_outcomes.specs.RuleOutcomes.{rule_outcomes_shown, with_rule_outcomes}
use Rattle.am_rule_outcomes.proofs.RulesFound.{found_at, found_length, joined_more, whole_of}
use Rattle.am_rule_outcomes.proofs.rule_changes.changes_of_rules.Goals as goal
use Rattle.am_rule_outcomes.proofs.rule_changes.changes_of_rules.Goals.{in-Some+in_ok-push_changes, in_default}

-- the outcomes of the rule at a position
module _ (found : RuleOutcomes) (i : ℕ) (within : i < length found.of_rules.items) where
  position : (p : Option ℕ) × (slice_get found.of_rules.items i ≡ Some p)
  position = rule_at found.of_rules.items i within

  of_rule_is : option_and_then (λ n. n) (slice_get (rule_outcomes_view found) i)
      ≡ narrowed_of (narrowed_in found) position.0
  of_rule_is =
      ap (option_and_then (λ n. n)) (slice_get-map (narrowed_of (narrowed_in found)) found.of_rules.items i
      ∙ ap (option_map (narrowed_of (narrowed_in found))) position.1)

pub push_changes-requires : goal.push_changes-requires
push_changes-requires c =
    let found = c.args.found.now in
    let within : c.loop-i.i < length found.of_rules.items = omega (arith, c.requires.each) in
    whole_of (narrowed_in found) c.requires.whole (position found c.loop-i.i within).0
    (narrowed_view c.in-Some.narrowed)
    (sym (of_rule_is found c.loop-i.i within) ∙ sym c.of_rule.ensures.outcomes
    ∙ ap (option_map narrowed_view) c.in-Some.is)

pub loop-i-preserved : goal.loop-i-preserved
loop-i-preserved c =
    let old = config_view c.args.old.now in
    let new = config_view c.args.new.now in
    let found = c.args.found.now in
    let rules : List AlertingRule = c.args.rules.now in
    let w = with_rule_outcomes rules (rule_outcomes_view found) in
    let i = c.loop-i.i in
    let within : i < length found.of_rules.items = omega (arith, c.requires.each) in
    let p = position found i within in
    let n = narrowed_of (narrowed_in found) p.0 in
    let narrowed : option_map narrowed_view c.of_rule.result ≡ n =
    c.of_rule.ensures.outcomes ∙ of_rule_is found i within in
    let r = rule_at rules i c.loop-i-test.true in
    let one : AlertingRule × List (List (List ℕ) × List (List ℕ × List ℕ)) = (r.0, rule_outcomes_shown r.0 n) in
    let more : c.match-of_rule.changes.items ≡ c.loop-i.changes.items ++ changes_of_rule old new one =
    elim c.match-of_rule.branch [
      | in-Some+in_ok-push_changes w ↦
          let is : Some (narrowed_view w.in-Some.narrowed) ≡ n =
          sym (ap (option_map narrowed_view) w.in-Some.is) ∙ narrowed in
          let e : Some w.index-rules-i.result ≡ Some r.0 =
          sym (stands_at rules i w.index-rules-i.result c.loop-i-test.true w.index-rules-i.is) ∙ r.1 in
          let same : w.index-rules-i.result ≡ r.0 = cc in
          ap (λ changes. changes.items) w.changes-is ∙ w.in_ok-push_changes.ensures
          ∙ (λ j. c.loop-i.changes.items
          ++ changes_of_rule old new (same j, rule_outcomes_shown (same j) (is j)))
      | in_default w ↦
          let is : None ≡ n = sym (ap (option_map narrowed_view) w.in_default.is) ∙ narrowed in
          ap (λ changes. changes.items) w.changes-is ∙ sym (append-nil c.loop-i.changes.items)
          ∙ (λ j. c.loop-i.changes.items ++ changes_of_rule old new (r.0, rule_outcomes_shown r.0 (is j)))
    ] in
    more ∙ ap (λ before. before ++ changes_of_rule old new one) c.loop-i.invariant
    ∙ joined_more (changes_of_rule old new) w i one (found_at rules found i r.0 p.0 r.1 p.1)

pub returns : goal.returns
returns c =
    let rules : List AlertingRule = c.args.rules.now in
    let w = with_rule_outcomes rules (rule_outcomes_view c.args.found.now) in
    let long : length w ≡ length rules = found_length rules c.args.found.now c.requires.each in
    record {
      changes = c.loop-i.invariant
          ∙ ap (changes_of_rules (config_view c.args.old.now) (config_view c.args.new.now))
          (take_all c.loop-i.i w (omega (arith, long)));
    }
