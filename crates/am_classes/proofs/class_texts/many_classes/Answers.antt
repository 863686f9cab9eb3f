use Rattle.std.proofs.Common.{◌-◌, List, map, take, drop}
use Rattle.am_labels.proofs.Passing.{passes_from_kept}
use Rattle.am_labels.specs.Matcher.{Matcher}
use Rattle.am_classes.specs.Alike.{HasOtherPattern}
use Rattle.am_classes.specs.ClassTexts.{AreManyClasses}
use Rattle.am_classes.specs.Named.{names_texts}
use Rattle.am_classes.proofs.PartLemmas.{many_whole, part_in, some_weaker}
use Rattle.am_classes.proofs.class_texts.many_classes.Goals as goal

pub returns-then-is_some-clause-many : goal.returns-then-is_some-clause-many
returns-then-is_some-clause-many c =
    let a = c.args.alphabet in
    let ms : List Matcher = map (λ m. m.now) c.args.matchers.now in
    let ns : List Matcher = map (λ m. m.now) c.in_ok-naming.naming.items in
    some_weaker (AreManyClasses a ns) (AreManyClasses a ms) c.in_ok-many.many
    (many_whole a ns ms (λ m i. (passes_from_kept names_texts ms m (rw c.in_ok-naming.ensures at i)).0))
    (rw c.as_slice.ensures.value at c.in_ok-many.ensures)

pub returns-then-is_some-clause-other : goal.returns-then-is_some-clause-other
returns-then-is_some-clause-other c =
    let other = c.has_other_pattern.ensures c.if-not-has_other_pattern.false in
    some_weaker _ (λ _. HasOtherPattern (map (λ m. m.now) c.args.matchers.now)) c.in_ok-many.many
    (λ _ _. other) c.in_ok-many.ensures

pub returns-then-is_some-2-clause-many : goal.returns-then-is_some-2-clause-many
returns-then-is_some-2-clause-many c =
    let a = c.args.alphabet in
    let matchers = c.args.matchers.now in
    let from = c.loop-from.from in
    let n = c.min-end.result - from in
    let ms : List Matcher = map (λ m. m.now) matchers in
    let ns : List Matcher = map (λ m. m.now) (take n (drop from matchers)) in
    some_weaker (AreManyClasses a ns) (AreManyClasses a ms) c.in_ok-many-2.many
    (many_whole a ns ms (λ m i. part_in (λ x. x.now) matchers from n m i)) c.in_ok-many-2.ensures

pub returns-then-is_some-2-clause-other : goal.returns-then-is_some-2-clause-other
returns-then-is_some-2-clause-other c =
    let other = c.has_other_pattern.ensures c.if-not-has_other_pattern.false in
    some_weaker _ (λ _. HasOtherPattern (map (λ m. m.now) c.args.matchers.now)) c.in_ok-many-2.many
    (λ _ _. other) c.in_ok-many-2.ensures
