use Rattle.std.proofs.Common.{◌≡◌, [], map, string_bytes, sym, ap, ◌∙◌, subst}
use Rattle.std.proofs.lemmas.Result.{IfOk-weaker}
use Rattle.am_scan.specs.Automaton.{pattern_of}
use Rattle.am_classes.specs.Truths.{AreNewIn, AreTested, texts_of}
use Rattle.am_classes.proofs.AutomataLemmas.{automata_for}
use Rattle.am_classes.proofs.ClassLemmas.{copied_texts}
use Rattle.am_classes.proofs.parts.apart_texts.Goals as goal

pub returns : goal.returns
returns c =
    let there = c.new.result in
    let none : there.items ≡ [] = c.new.ensures.items in
    let wanted : texts_of c.in_ok-tested.tested.items ≡ map string_bytes c.args.texts.now =
    c.in_ok-tested.ensures.texts
    ∙ copied_texts c.args.texts.now c.in_ok-texts.texts.items c.in_ok-texts.ensures.ok in
    IfOk-weaker c.new_texts.result _ _
    (λ texts new ms is.
    let some = new ms (subst (AreTested ms) (sym none) tt) (c.in_ok-tested.ensures.tested ms is) in
    subst (λ xs. AreNewIn ms xs (map string_bytes c.args.texts.now) (map string_bytes texts.items)) (ap texts_of none)
    (subst (λ xs. AreNewIn ms (texts_of there.items) xs (map string_bytes texts.items)) wanted some))
    c.new_texts.ensures

pub tested_with-requires-clause-fit : goal.tested_with-requires-clause-fit
tested_with-requires-clause-fit c =
    automata_for c.args.tests.now.patterns.keys c.as_slice-automata.result.now
    (ap (map pattern_of) c.as_slice-automata.ensures.value ∙ c.requires.fit)
