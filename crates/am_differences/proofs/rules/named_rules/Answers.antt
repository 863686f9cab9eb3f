use Rattle.std.proofs.Common.{◌≡◌, unwrap_or, length, ap, sym, ◌∙◌}
use Rattle.std.proofs.Common.{arith, rules}
use Rattle.std.specs.Prelude.{codes}
use Rattle.std.specs.Iterator.Adapters.{zip_first, zip_second}
use Rattle.std.specs.Slice.Iter.{iter_rest}
use Rattle.std.proofs.lemmas.Grind.{common_steps}
use Rattle.std.proofs.lemmas.List.{length_push, length-map}
use Rattle.std.proofs.lemmas.Slice.Zip.{zip_turn, zip_end}
use Rattle.serde_json.specs.Data.{Data, null}
use Rattle.serde_json.specs.View.{view}
use Rattle.am_json.specs.Json.{field}
use Rattle.am_config.specs.ConfigView.{whole_config_view}
use Rattle.am_differences.specs.Parts.{rule_values}
use Rattle.am_differences.proofs.PartSteps.{pairs_more, pairs_all}
use Rattle.am_differences.proofs.rules.named_rules.Goals as goal

abbrev name_of : Data → Data
name_of d = unwrap_or (field (codes "name") d) null

pub loop-rule-preserved : goal.loop-rule-preserved
loop-rule-preserved c =
    let k = whole_config_view c.args.config.now in
    let values = c.rule_values.result.now in
    let seen = c.loop-rule.yielded in
    let first : iter_rest (zip_first c.into_iter-rule-iterator.result) ≡ k.config.rules = search rules in
    let second : iter_rest (zip_second c.into_iter-rule-iterator.result) ≡ values = search rules in
    let turn =
    zip_turn k.config.rules values seen c.into_iter-rule-iterator.result c.loop-rule.rule-iterator
    c.next.new.self c.next.result first second c.loop-rule.yielded_by (c.in-Some.rule, c.in-Some.value) c.in-Some.is c.next.ensures.steps in
    let more =
    pairs_more k.config.rules (rule_values k.rest) name_of values (length seen) c.in-Some.rule.now
    c.in-Some.value.now c.rule_values.ensures turn.0 turn.1 (turn.2 _) (turn.3 _) in
    let longer = length_push seen (c.in-Some.rule, c.in-Some.value) in
    rw longer (grind (arith, common_steps, more))

pub returns : goal.returns
returns c =
    let k = whole_config_view c.args.config.now in
    let values = c.rule_values.result.now in
    let seen = c.loop-rule.yielded in
    let first : iter_rest (zip_first c.into_iter-rule-iterator.result) ≡ k.config.rules = search rules in
    let second : iter_rest (zip_second c.into_iter-rule-iterator.result) ≡ values = search rules in
    let end =
    zip_end k.config.rules values seen c.into_iter-rule-iterator.result c.loop-rule.rule-iterator
    c.next.new.self c.next.result first second c.loop-rule.yielded_by c.in-None.is
    c.next.ensures.steps in
    c.loop-rule.invariant
    ∙ pairs_all k.config.rules (rule_values k.rest) name_of (length seen) (length values)
    (sym (length-map values view) ∙ ap length c.rule_values.ensures) end
