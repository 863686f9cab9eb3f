use Rattle.std.proofs.Common.{◌≡◌, ℕ, List, true, lit<, sym, ap, ◌∙◌}
use Rattle.std.proofs.lemmas.Iterator.Consumers.{map_from_collect}
use Rattle.std.proofs.lemmas.Iterator.Splits.{YieldsList-from_str_split}
use Rattle.std.proofs.lemmas.Result.{IfOk-weaker}
use Rattle.am_labels.specs.declared.op.Op.{Op}
use Rattle.am_labels.specs.declared.op.Op.TheVariants.{Matches, NotMatches}
use Rattle.am_labels.specs.Matcher.{comparison, takes_pattern}
use Rattle.am_labels.specs.Wildcards.{alternatives, is_alternation}
use Rattle.am_classes.specs.Named.{alternatives_with}
use Rattle.am_unseen.proofs.misspelled.alternatives_of.Goals as goal

parts_with : (op : Op) (value : List ℕ) → takes_pattern op ≡ true → is_alternation value ≡ true
    → alternatives value ≡ alternatives_with (comparison op) value
parts_with Matches value e is = rw is
parts_with NotMatches value e is = rw is
parts_with _ value e is = absurd cc

pub returns-then-is_alternation : goal.returns-then-is_alternation
returns-then-is_alternation c =
    let m = c.args.matcher.now in
    let value = c.value-pattern.ensures.value in
    let pattern : takes_pattern m.op ≡ true =
    sym (c.takes_pattern.ensures.takes_pattern ∙ ap takes_pattern c.op.ensures.op)
    ∙ c.if-takes_pattern.true in
    let plain : is_alternation m.value ≡ true =
    ap is_alternation (sym value) ∙ sym c.is_alternation.ensures ∙ c.if-is_alternation.true in
    let parts = map_from_collect _ c.collect.ensures.ran (YieldsList-from_str_split 124
    c.value-pattern.result.now (lit< tt) c.split.ensures.text c.split.ensures.has_more
    c.split.ensures.pattern) in
    IfOk-weaker c.collect.result _ _
    (λ named e. e ∙ ap alternatives value ∙ parts_with m.op m.value pattern plain) parts
