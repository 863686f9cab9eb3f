use Rattle.std.proofs.Common.{◌++◌, [], ℕ, List, Bor, map, flat_map, filter, ap, ◌∙◌}
use Rattle.std.proofs.Common.{IsPermutation, sym, subst}
use Rattle.std.proofs.lemmas.List.Sorted.{IsPermutation-map}
use Rattle.std.proofs.lemmas.Result.{IfOk-weaker}
use Rattle.am_labels.specs.Matcher.{Matcher}
use Rattle.am_classes.specs.Alphabet.{is_over}
use Rattle.am_classes.specs.Named.{AreEachOnce, named_over, text_of, alternatives_of}
use Rattle.am_classes.proofs.AskedLemmas.{no_texts, once_moved}
use Rattle.am_classes.proofs.named_texts.named_texts.Goals as goal

pub returns : goal.returns
returns c =
    let ms : List Matcher = map (λ m. m.now) c.args.matchers.now in
    let kept : List (List ℕ) → List (List ℕ) = filter (is_over c.args.alphabet) in
    let now : Bor (List ℕ) → List ℕ = λ text. text.now in
    let xs = flat_map text_of ms in
    let ys = flat_map alternatives_of ms in
    let zs = map now c.sort_by_key.new.self.items in
    let texts = map now c.add_over-2.new.texts.keys in
    let moved : IsPermutation ys zs =
    subst (λ ps. IsPermutation ps zs) c.in_ok-parts.ensures
    (IsPermutation-map now c.in_ok-parts.parts.items c.sort_by_key.new.self.items c.sort_by_key.ensures.permutation) in
    let none = subst (λ ts. AreEachOnce [] (map now ts)) (sym c.new-texts.ensures.empty) no_texts in
    let all = c.in_ok-add_over-2.ensures _ (c.in_ok-add_over.ensures [] none) in
    IfOk-weaker c.copied.result _ _ (λ copies same.
    subst (AreEachOnce (named_over c.args.alphabet ms))
    (sym (same ∙ ap (map now) c.as_slice-3.ensures.keys))
    (once_moved (is_over c.args.alphabet) xs ys zs texts moved
    (subst (λ us. AreEachOnce (([] ++ kept us) ++ kept zs) texts)
    (ap (map now) c.as_slice.ensures.value ∙ c.in_ok-compared.ensures)
    (subst (λ vs. AreEachOnce (([] ++ kept (map now c.as_slice.result.now)) ++ kept vs) texts)
    (ap (map now) c.as_slice-2.ensures.value) all)))) c.copied.ensures
