use Rattle.std.proofs.Common.{◌≡◌, ◌++◌, ◌∷◌, [], List, map, sym, ap, ◌∙◌, subst}
use Rattle.std.proofs.Common.{append-nil, rules, append_assoc, refl, string_bytes}
use Rattle.std.specs.List.{list_any}
use Rattle.std.proofs.lemmas.Bool.{not-true, not-false, OnFalse_at}
use Rattle.std.proofs.lemmas.Iterator.Adapters.{YieldsList-from_vec}
use Rattle.std.proofs.lemmas.Iterator.Consumers.{YieldsList-end}
use Rattle.std.proofs.lemmas.List.{map-append}
use Rattle.std.proofs.lemmas.List.Folds.{map_fixed}
use Rattle.am_universe.proofs.DistinctLists.{all_pushed}
use Rattle.am_classes.specs.Truths.{AreTested, AreNewIn, texts_of}
use Rattle.am_classes.specs.declared.tested.Tested.{Tested}
use Rattle.am_classes.proofs.TestedTexts.{AreSeen, seen_first, seen_more, alike_there, none_alike}
use Rattle.am_classes.proofs.TestedTexts.{one_old, one_new}
use Rattle.am_classes.proofs.tested.new_texts.Goals as goal

pub loop-text-init : goal.loop-text-init
loop-text-init c = λ ms there none.
    simp (c.new-texts.ensures.items, append-nil) (
      λ found. c.in_ok-seen.ensures.0 found ∙ seen_first ms c.args.there.items found there,
      search rules,
    )

pub loop-text-preserved : goal.loop-text-preserved
loop-text-preserved c = λ ms tested wanted.
    let there = texts_of c.args.there.items in
    let text = c.in-Some.text in
    let x = string_bytes text.text in
    let before = map string_bytes c.loop-text.texts.items in
    let parts = all_pushed _ c.loop-text.yielded text wanted in
    let so_far = c.loop-text.invariant ms tested parts.0 in
    let none = sym (so_far.0 text.hits)
    ∙ not-true _ (sym c.in_ok-is_new.ensures.added ∙ c.if-not-is_new.false) in
    simp (c.in_ok-push.ensures.items, map-append) (
      subst (AreSeen ms c.insert.new.self) (append_assoc there before (x ∷ []))
          (λ found. seen_more ms (there ++ before) x text.hits parts.1 found _ _ (so_far.0 found)
          (c.in_ok-is_new.ensures.updates.0 found)),
      one_new ms there (texts_of c.loop-text.yielded) before x so_far.1
          (none_alike ms (there ++ before) x text.hits parts.1 none),
    )

pub loop-text-preserved-then-not-is_new : goal.loop-text-preserved-then-not-is_new
loop-text-preserved-then-not-is_new c = λ ms tested wanted.
    let there = texts_of c.args.there.items in
    let text = c.in-Some.text in
    let x = string_bytes text.text in
    let before = map string_bytes c.loop-text.texts.items in
    let parts = all_pushed _ c.loop-text.yielded text wanted in
    let so_far = c.loop-text.invariant ms tested parts.0 in
    let added = c.in_ok-is_new.ensures.added in
    let some = sym (so_far.0 text.hits) ∙ not-false _ (sym added ∙ c.if-not-is_new.true) in (
      λ found. ap (list_any _) (OnFalse_at c.if-not-is_new.true c.in_ok-is_new.ensures.unchanged)
          ∙ so_far.0 found,
      simp map-append (one_old ms there (texts_of c.loop-text.yielded) before x so_far.1
          (alike_there ms (there ++ before) x text.hits parts.1 some)),
    )

pub returns : goal.returns
returns c = λ ms there wanted.
    let start = c.into_iter-text-iterator.ensures.into_iter_gives in
    let all =
    YieldsList-end
    (YieldsList-from_vec {s = c.into_iter-text-iterator.result} c.args.wanted.items start.0
    (start.1 ∙ c.args.wanted.ok.0))
    c.loop-text.yielded c.loop-text.text-iterator c.loop-text.yielded_by c.next.result
    c.next.new.self c.in-None.is c.next.ensures.steps in
    let whole : c.loop-text.yielded ≡ c.args.wanted.items =
    sym (map_fixed (λ x. x) c.loop-text.yielded (λ k d h. refl)) ∙ all.0 in
    subst (λ (ts : List Tested). AreNewIn ms (texts_of c.args.there.items) (texts_of ts)
    (map string_bytes c.loop-text.texts.items)) whole
    (c.loop-text.invariant ms there (subst (AreTested ms) (sym whole) wanted)).1
