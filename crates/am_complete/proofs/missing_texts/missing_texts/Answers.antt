use Rattle.std.proofs.Common.{◌≡◌, ◌==◌, ℕ, List, [], map, string_bytes, sym, ap, ◌∙◌, subst}
use Rattle.std.proofs.lemmas.Result.{IfOk-weaker}
use Rattle.am_complete.specs.Covering.{standing_texts}
use Rattle.am_classes.specs.Truths.{AreNewIn, texts_of}
use Rattle.am_complete.proofs.BesideTexts.{new_beside, none_new}
use Rattle.am_complete.proofs.LabelStates.{none_counted}
use Rattle.am_complete.proofs.missing_texts.missing_texts.Goals as goal

pub returns-then-is_empty : goal.returns-then-is_empty
returns-then-is_empty c = λ ms is.
    let there = standing_texts c.args.space.now c.args.name.now in
    let found = c.in_ok-wanted.wanted in
    let wanted = map string_bytes found.items in
    let none : wanted ≡ [] = none_counted string_bytes found.items
    (ap (λ n. n == 0) (sym found.ok.0) ∙ sym c.is_empty.ensures ∙ c.if-is_empty.true) in
    new_beside ms (map string_bytes c.as_slice.result.now) there
    (map string_bytes c.args.texts.items) wanted wanted
    (ap (map string_bytes) c.as_slice.ensures.value ∙ c.in_ok-standing.ensures)
    (c.in_ok-wanted.ensures.from, c.in_ok-wanted.ensures.all) (none_new ms there wanted none)

pub returns : goal.returns
returns c =
    let there = standing_texts c.args.space.now c.args.name.now in
    let wanted = map string_bytes c.in_ok-wanted.wanted.items in
    let stands : texts_of c.in_ok-standing-2.standing.items ≡ there =
    c.in_ok-standing-2.ensures.texts ∙ c.in_ok-standing.ensures in
    IfOk-weaker c.new_texts.result _ _ (λ missing h ms is.
    let found = map string_bytes missing.items in
    new_beside ms (map string_bytes c.as_slice.result.now) there
    (map string_bytes c.args.texts.items) wanted found
    (ap (map string_bytes) c.as_slice.ensures.value ∙ c.in_ok-standing.ensures)
    (c.in_ok-wanted.ensures.from, c.in_ok-wanted.ensures.all)
    (subst (λ (xs : List (List ℕ)). AreNewIn ms xs wanted found) stands
    (subst (λ (xs : List (List ℕ)).
    AreNewIn ms (texts_of c.in_ok-standing-2.standing.items) xs found)
    c.in_ok-wanted-2.ensures.texts
    (h ms (c.in_ok-standing-2.ensures.tested ms is) (c.in_ok-wanted-2.ensures.tested ms is)))))
    c.new_texts.ensures
