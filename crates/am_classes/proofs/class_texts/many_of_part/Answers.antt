use Rattle.std.proofs.Common.{◌++◌, [], false, List, map, string_bytes, refl, sym, ap, ◌∙◌, subst, arith}
use Rattle.std.specs.List.{AllByRecursion}
use Rattle.am_labels.specs.Matcher.{Matcher}
use Rattle.am_classes.specs.Truths.{AreNewIn}
use Rattle.am_classes.proofs.ClassLemmas.{copied_texts}
use Rattle.am_classes.proofs.PartLemmas.{IsTried, joined_tried, many_tried, named_tried}
use Rattle.am_classes.proofs.PartLemmas.{short_tried}
use Rattle.am_classes.proofs.class_texts.many_of_part.Goals as goal

pub returns : goal.returns
returns c =
    let a = c.args.alphabet in
    let ms : List Matcher = map (λ m. m.now) c.args.matchers.now in
    let is = c.in_ok-tests.ensures in
    let asks = rw c.in-Some.is at c.in_ok-questions.ensures.asks in
    let copies = c.in_ok-texts-2.texts.items in
    let named = subst (λ ts. AllByRecursion (IsTried a ms) ts)
    (sym (copied_texts c.as_slice.result.now copies c.in_ok-texts-2.ensures.ok
    ∙ ap (map string_bytes) c.as_slice.ensures.value ∙ ap (λ v. v.1.0) asks))
    (named_tried a ms (map string_bytes c.in_ok-texts.texts.items) c.in_ok-texts.ensures) in
    let sampled = short_tried a ms (map string_bytes c.in_ok-samples.field-0.items) c.in_ok-samples.ensures in
    let more = c.in_ok-samples.field-0.items in
    let tried = subst (λ ts. AllByRecursion (IsTried a ms) (map string_bytes ts))
    (sym (c.in_ok-append.ensures.items ∙ ap (λ ts. ts ++ more) c.truncate.ensures.items))
    (joined_tried (IsTried a ms) c.if-is_empty.truncate copies more named sampled) in
    let new = subst (λ ts. AreNewIn ms [] (map string_bytes ts) (map string_bytes c.in_ok-texts-3.texts.items))
    c.as_slice-2.ensures.value (c.in_ok-texts-3.ensures ms is) in
    many_tried a ms (record { texts = c.in_ok-texts-3.texts; all = false; tests = c.with_asked-tests.result })
    (map string_bytes c.append.new.self.items) refl (omega (arith, c.len.ensures, c.if-len-le-MAX_VALUES.false)) tried new
    (c.with_asked-tests.ensures ms is)
