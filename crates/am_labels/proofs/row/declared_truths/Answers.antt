use Rattle.std.proofs.Common.{◌≡◌, ◌<◌, [], ◌∷◌, ◌++◌, length, get_or, None, map, ap, ◌∙◌, unwrap_or, arith}
use Rattle.std.proofs.lemmas.List.{take_all}
use Rattle.am_labels.specs.Matcher.{holds}
use Rattle.am_universe.specs.Universe.{values_at}
use Rattle.am_labels.specs.Row.{truth_on_value}
use Rattle.am_universe.proofs.LabelValueLemmas.{size_at, value_is}
use Rattle.am_labels.proofs.RowLemmas.{unwrapped, truths_more}
use Rattle.am_labels.proofs.row.declared_truths.Goals as goal

pub loop-j-preserved : goal.loop-j-preserved
loop-j-preserved c =
    let u = c.args.universe.now in
    let m = c.args.prepared.now in
    let size = size_at u c.args.i _ c.size-size.ensures.size in
    let within : c.loop-j.j < length (values_at u c.args.i) = omega arith in
    let value : c.unwrap_or.result.now ≡ unwrap_or (get_or (values_at u c.args.i) c.loop-j.j None) [] =
    ap (λ r. r.now) c.unwrap_or.ensures ∙ unwrapped (λ r. r.now) c.value.result _ ∙ ap (λ o. unwrap_or o []) (c.value.ensures.text ∙ value_is u c.args.i c.loop-j.j within) in
    let truth : c.holds.result ≡ truth_on_value m (get_or (values_at u c.args.i) c.loop-j.j None) =
    c.holds.ensures.truth ∙ ap (λ t. holds t.op t.value c.unwrap_or.result.now) c.loop-j.invariant.same ∙ ap (holds m.op m.value) value in
    record {
      truths = c.in_ok-push.ensures.items ∙ ap (λ t. c.loop-j.truths.items ++ t ∷ []) truth ∙ truths_more m _ _ _ c.loop-j.invariant.truths within;
      same = c.holds.ensures.same ∙ c.loop-j.invariant.same;
    }

pub returns-clause-truths : goal.returns-clause-truths
returns-clause-truths c =
    let u = c.args.universe.now in
    let m = c.args.prepared.now in
    let size = size_at u c.args.i _ c.size-size.ensures.size in
    c.loop-j.invariant.truths ∙ ap (map (truth_on_value m)) (take_all c.loop-j.j (values_at u c.args.i) (omega arith))
