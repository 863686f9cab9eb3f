use Rattle.std.proofs.Common.{◌≡◌, ℕ, List, true, lit<, sym, ap, ◌∙◌}
use Rattle.std.proofs.lemmas.Iterator.Consumers.{map_from_collect}
use Rattle.std.proofs.lemmas.Iterator.Splits.{YieldsList-from_str_split}
use Rattle.std.proofs.lemmas.Result.{IfOk-weaker}
use Rattle.am_labels.specs.declared.op.Comparison.{Comparison}
use Rattle.am_labels.specs.declared.op.Comparison.TheVariants.{Text, Pattern}
use Rattle.am_labels.specs.Matcher.{comparison}
use Rattle.am_labels.specs.Wildcards.{alternatives, is_alternation}
use Rattle.am_classes.specs.Named.{alternatives_with}
use Rattle.am_classes.proofs.named_texts.alternatives_of.Goals as goal

parts_with : (so : Comparison) (value : List ℕ) → so ≡ Pattern → is_alternation value ≡ true
    → alternatives value ≡ alternatives_with so value
parts_with Text value e is = absurd cc
parts_with Pattern value e is = rw is

pub returns-in-Pattern : goal.returns-in-Pattern
returns-in-Pattern c =
    let m = c.args.matcher.now in
    let value = c.value-pattern.ensures.value in
    let pattern : comparison m.op ≡ Pattern =
    sym (c.comparison.ensures.comparison ∙ ap comparison c.op.ensures.op) ∙ c.in-Pattern.is in
    let plain : is_alternation m.value ≡ true =
    ap is_alternation (sym value) ∙ sym c.is_alternation.ensures ∙ c.if-is_alternation.true in
    let parts = map_from_collect _ c.collect.ensures.ran (YieldsList-from_str_split 124
    c.value-pattern.result.now (lit< tt) c.split.ensures.text c.split.ensures.has_more
    c.split.ensures.pattern) in
    IfOk-weaker c.collect.result _ _
    (λ named e. e ∙ ap alternatives value ∙ parts_with (comparison m.op) m.value pattern plain)
    parts
