use Rattle.std.proofs.Common.{ℕ, List, ◌≡◌, ◌++◌, ◌∷◌, [], map, string_bytes, sym, ap, ◌∙◌, subst}
use Rattle.std.proofs.lemmas.List.{map-append}
use Rattle.am_classes.specs.Alphabet.{is_over, IsOver}
use Rattle.am_classes.proofs.OverLemmas.{string_over}
use Rattle.am_complete.specs.Representatives.{GainsOnly}
use Rattle.am_complete.proofs.RepresentativeTexts.{none_gained, one_gained}
use Rattle.am_complete.proofs.usual_texts.push_new.Goals as goal

pub returns-in_err-push : goal.returns-in_err-push
returns-in_err-push c =
    let old = c.args.texts.now.items in
    let So : List ℕ → Type 0 = λ x. IsOver c.args.alphabet x × (x ≡ c.args.text.now) in
    subst (λ ts. GainsOnly So (map string_bytes old) (map string_bytes ts))
    (sym c.in_err-push.ensures.items) (none_gained So (map string_bytes old))

pub returns-in_ok-push : goal.returns-in_ok-push
returns-in_ok-push c =
    let a = c.args.alphabet in
    let old = c.args.texts.now.items in
    let copy = c.in_ok-from_str.field-0 in
    let texts : map string_bytes c.push.new.self.items ≡ map string_bytes old ++ string_bytes copy ∷ [] =
    ap (map string_bytes) c.in_ok-push.ensures.items ∙ map-append string_bytes old (copy ∷ []) in
    let over = string_over a copy
    (ap (is_over a) c.in_ok-from_str.ensures.ok ∙ sym c.has.ensures.over ∙ c.if-has.true) in
    subst (GainsOnly _ (map string_bytes old)) (sym texts)
    (one_gained _ (map string_bytes old) (string_bytes copy) (over, c.in_ok-from_str.ensures.ok))

pub returns-else-len-lt-MAX_VALUES : goal.returns-else-len-lt-MAX_VALUES
returns-else-len-lt-MAX_VALUES c = none_gained _ (map string_bytes c.args.texts.now.items)
