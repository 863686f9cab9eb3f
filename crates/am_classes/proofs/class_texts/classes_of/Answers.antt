use Rattle.std.proofs.Common.{◌≡◌, ◌⊎◌, ◌+◌, ◌<◌, ◌++◌, false, subst, map, length, string_bytes, vec_len}
use Rattle.std.proofs.Common.{arith, length-append, sym, ap, ap₂, ◌∙◌}
use Rattle.std.specs.List.{AllByRecursion}
use Rattle.std.proofs.lemmas.List.{length-map}
use Rattle.am_universe.specs.declared.limits.TheConstants.{MAX_VALUES}
use Rattle.am_scan.specs.Automaton.{pattern_of}
use Rattle.am_classes.specs.Alike.{AreApart, Covers}
use Rattle.am_classes.specs.Alphabet.{AreOver}
use Rattle.am_classes.specs.ClassTexts.{IsClassText}
use Rattle.am_classes.specs.State.{patterns_of}
use Rattle.am_classes.specs.declared.limits.TheConstants.{MAX_SAMPLE_NUMBERS}
use Rattle.am_classes.proofs.AskedLemmas.{has_other}
use Rattle.am_classes.proofs.ClassLemmas.{asked_by, class_texts, classes_apart, classes_cover}
use Rattle.am_classes.proofs.ClassLemmas.{classes_over, classes_tied}
use Rattle.am_classes.proofs.class_texts.classes_of.Goals as goal

pub returns : goal.returns
returns c = λ ms a texts is once parts.
    let q = c.args.parts.questions in
    let all = c.args.parts.candidates.all in
    let items = c.args.parts.named.items in
    let cs = c.args.parts.candidates.items.items in
    let named = map string_bytes items in
    let asked = asked_by ms a c.args.tests texts q is once parts.asked in
    let new = parts.new ms is in
    let over : q.alphabet ≡ a = ap (λ v. v.0) parts.asked in
    let found = c.in_ok-texts.texts in
    let written : map string_bytes found.items ≡ class_texts named cs =
    c.in_ok-texts.ensures ∙ ap (λ xs. named ++ map (λ x. string_bytes x.text) xs) c.as_slice.ensures.value in
    let count : length found.items ≡ length items + length cs =
    sym (length-map found.items string_bytes) ∙ ap length written
    ∙ length-append named (map (λ x. string_bytes x.text) cs)
    ∙ ap₂ ◌+◌ (length-map items string_bytes) (length-map cs (λ x. string_bytes x.text)) in
    record {
      covers = λ whole. subst (Covers a ms) (sym written)
          (subst (λ b. Covers b ms (class_texts named cs)) over
          (classes_cover ms q named cs asked new (parts.found.all whole)));
      many = λ some_missing.
          let more : MAX_VALUES < vec_len found = omega (arith, parts.many some_missing, count, found.ok.0) in (
            more,
            has_other ms (patterns_of q) asked.patterns
                (omega (arith, parts.found.patterns some_missing, length-map q.automata.items pattern_of)),
          );
      over = subst (AreOver a) (sym written)
          (subst (λ b. AreOver b (class_texts named cs)) over
          (classes_over ms q named cs asked new parts.found.distinct));
      apart = subst (AreApart ms) (sym written)
          (classes_apart ms q named cs asked new parts.found.distinct);
      tied = subst (AllByRecursion _) (sym written)
          (subst (λ b. AllByRecursion (λ text. IsClassText b ms text ⊎ ((all ≡ false) × (length text < MAX_SAMPLE_NUMBERS)))
          (class_texts named cs)) over
          (classes_tied ms q named cs asked new all parts.found.distinct parts.found.tied));
      tests = c.with_asked-tests.ensures ms is;
    }
