use Rattle.std.proofs.Common.{◌≡◌, ◌∷◌, [], List, option_copied, map, string_bytes, sym, ap, ◌∙◌, subst}
use Rattle.std.specs.Prelude.{position}
use Rattle.std.specs.List.{AllByRecursion}
use Rattle.std.specs.Cmp.Lexicographic.{bytes_decides}
use Rattle.am_classes.specs.Truths.{are_same, texts_of}
use Rattle.am_rule_outcomes.specs.Narrowing.{alike_position}
use Rattle.am_rule_outcomes.proofs.LabelTexts.{IsKnown, known_position, known_more}
use Rattle.am_rule_outcomes.proofs.LabelTexts.{first_position, the_text}
use Rattle.am_rule_outcomes.proofs.label_texts.LabelTexts.alike_position.Goals as goal

pub returns-in-Some-clause-position : goal.returns-in-Some-clause-position
returns-in-Some-clause-position c = λ ms label is.
    known_position ms label _ c.args.text.now (λ k t. sym ((bytes_decides _ _).0 t))
    c.args.self.now.known.entries c.in-Some.position.now is.known
    (sym c.get.ensures.value ∙ ap option_copied c.in-Some.is)

pub returns-clause-position : goal.returns-clause-position
returns-clause-position c = λ ms label is.
    let all = c.in_ok-tested.tested.items in
    let w = c.index.result.now in
    let texts : texts_of all ≡ c.args.text.now ∷ [] =
    c.in_ok-tested.ensures.texts ∙ ap (map string_bytes) c.in_ok-wanted.ensures.items
    ∙ (λ i. c.in_ok-from_str.ensures.ok i ∷ []) in
    let one = the_text ms all w c.args.text.now texts (c.in_ok-tested.ensures.tested ms is.tests)
    c.index.ensures in
    c.first_alike-position.ensures
    ∙ ap (position (λ t. are_same t.hits w.hits)) c.as_slice.ensures.value
    ∙ first_position ms c.args.self.now.texts.items w c.args.text.now label is.tested
    one.hits_are is.are

pub returns-clause-same : goal.returns-clause-same
returns-clause-same c = λ ms label is. record {
  name = is.name;
  tests = is.tests;
  are = is.are;
  tested = is.tested;
  known = subst (AllByRecursion (IsKnown ms label)) (sym c.in_ok-insert.ensures.entries)
      (known_more ms label _ (λ k e t. (bytes_decides _ _).0 t) c.args.self.now.known.entries
      c.in_ok-from_str-2.field-0 c.first_alike-position.result is.known
      (returns-clause-position c ms label is
      ∙ ap (λ t. alike_position ms t label) (sym c.in_ok-from_str-2.ensures.ok)));
}
