use Rattle.std.proofs.Common.{◌≡◌, ◌<◌, [], length, get_or, None, map, ap, ◌∙◌, unwrap_or, arith}
use Rattle.std.proofs.Common.{string_bytes}
use Rattle.std.proofs.lemmas.List.{take_all}
use Rattle.std.proofs.lemmas.Grind.{common_steps}
use Rattle.am_universe.specs.Universe.{values_at}
use Rattle.am_universe.proofs.LabelValueLemmas.{size_at, value_is}
use Rattle.am_labels.proofs.RowLemmas.{unwrapped}
use Rattle.am_complete.proofs.LabelStates.{texts_more}
use Rattle.am_rule_outcomes.proofs.label_texts.texts_at.Goals as goal

pub loop-j-preserved : goal.loop-j-preserved
loop-j-preserved c =
    let values = values_at c.args.universe.now c.args.i in
    let size = size_at c.args.universe.now c.args.i _ c.size-size.ensures.size in
    let within : c.loop-j.j < length values = omega arith in
    let value : c.unwrap_or-text.result.now ≡ unwrap_or (get_or values c.loop-j.j None) [] =
    ap (λ r. r.now) c.unwrap_or-text.ensures ∙ unwrapped (λ r. r.now) c.value.result _
    ∙ ap (λ o. unwrap_or o [])
    (c.value.ensures.text ∙ value_is c.args.universe.now c.args.i c.loop-j.j within) in
    ap (map string_bytes) c.in_ok-push.ensures.items
    ∙ texts_more values c.loop-j.j c.loop-j.texts.items c.in_ok-from_str.field-0
    c.loop-j.invariant (c.in_ok-from_str.ensures.ok ∙ value) within

pub returns : goal.returns
returns c = grind (arith, common_steps, size_at, take_all)
