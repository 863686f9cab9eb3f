use Rattle.std.proofs.Common.{◌≡◌, ◌∷◌, [], nat_eq, List, map, string_bytes, ap, ◌∙◌}
use Rattle.std.specs.Cmp.Lexicographic.{pointwise}
use Rattle.am_labels.specs.Matcher.{Matcher}
use Rattle.am_classes.specs.Truths.{texts_of}
use Rattle.am_rule_outcomes.proofs.LabelTexts.{two_alike, two_long}
use Rattle.am_rule_outcomes.proofs.narrowing.is_like_absence.Goals as goal
use Rattle.am_rule_outcomes.proofs.narrowing.is_like_absence.Goals.{In_ok-tested}

texts : (c : In_ok-tested) → texts_of c.in_ok-tested.tested.items ≡ [] ∷ c.args.text.now ∷ []
texts c =
    c.in_ok-tested.ensures.texts ∙ ap (map string_bytes) c.in_ok-texts.ensures.items
    ∙ (λ i. c.new.ensures.bytes i ∷ c.in_ok-from_str.ensures.ok i ∷ [])

pub index-requires-2 : goal.index-requires-2
index-requires-2 c = two_long c.in_ok-tested.tested [] c.args.text.now (texts (goal.at.index-requires-2 c).In_ok-tested)

pub returns : goal.returns
returns c =
    let ms : List Matcher = map (λ m. m.now) c.args.matchers.now in
    c.eq.ensures ∙ (λ i. pointwise nat_eq (c.as_slice.ensures.value i) (c.as_slice-2.ensures.value i))
    ∙ two_alike ms c.in_ok-tested.tested.items [] c.args.text.now (texts (goal.at.returns c).In_ok-tested)
    (c.in_ok-tested.ensures.tested ms c.in_ok-tests.ensures) c.index.result.now c.index-2.result.now
    c.index.ensures c.index-2.ensures
