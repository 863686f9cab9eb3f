use Rattle.std.proofs.Common.{◌<◌, List, length, sym, ap, ◌∙◌, subst, arith}
use Rattle.am_universe.specs.Universe.{Label}
use Rattle.am_universe.proofs.LabelPairLemmas.{found_at, name_at}
use Rattle.am_labels.specs.Matcher.{Matcher}
use Rattle.std.proofs.lemmas.Slice.Zip.{all_zipped_more}
use Rattle.am_complete.proofs.Pushed.{one_longer}
use Rattle.am_rule_outcomes.specs.Narrowing.{matchers_on}
use Rattle.am_rule_outcomes.specs.NarrowingView.{IsLabelTexts}
use Rattle.am_rule_outcomes.proofs.narrowing.label_texts.Goals as goal

pub loop-i-preserved : goal.loop-i-preserved
loop-i-preserved c =
    let u : List Label = c.args.universe.now in
    let asked = c.args.asked.now in
    let i = c.loop-i.i in
    let within : i < length u = omega arith in
    let l = found_at u i within in
    let name = name_at u i l.0 c.name.result.now l.1 c.name.ensures.name in
    let is = subst (λ (ms : List Matcher). IsLabelTexts ms l.0 c.in_ok-of.field-0)
    (c.matchers_on-matchers.ensures ∙ ap (matchers_on asked) (sym name))
    (c.in_ok-of.ensures l.0 l.1) in
    rw (c.in_ok-push.ensures.items, ← one_longer u i l.0 l.1)
    (all_zipped_more (λ (l : Label) t. IsLabelTexts (matchers_on asked l.name) l t) _ _ l.0 _ c.loop-i.invariant is)
