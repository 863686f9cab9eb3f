use Rattle.std.proofs.Common.{refl, ap, ◌∙◌, string_bytes}
use Rattle.std.proofs.lemmas.Option.{slice_get_read}
use Rattle.am_universe.specs.LabelSet.{value_of}
use Rattle.am_labels.specs.Row.{row_of}
use Rattle.am_labels.specs.declared.op.Op.TheVariants.{Equal}
use Rattle.am_eval.specs.Conditions.{same_value}
use Rattle.am_judged_lists.proofs.RowLemmas.{mapped_more}
use Rattle.am_plans.proofs.pair_lists.rows_of_values.Goals as goal

pub loop-name-preserved : goal.loop-name-preserved
loop-name-preserved c =
    let u = c.args.universe.now in
    let alert = c.args.alert.now in
    let name = c.name-item.result in
    let here = slice_get_read c.args.names.now _ c.loop-name.name-index name refl
    c.loop-name-test.true c.name-item.is in
    let value = c.get.ensures.value ∙ ap (value_of alert) c.deref.ensures in
    let row = c.in_ok-of_value.ensures.row
    ∙ (λ i. row_of u (record { name = c.as_str.ensures.value i; op = Equal; value = value i })) in
    c.in_ok-push.ensures.items
    ∙ mapped_more (λ n. row_of u (same_value alert (string_bytes n))) c.args.names.now
    c.loop-name.name-index name c.loop-name.rows.items _ c.loop-name.invariant here row
