use Rattle.std.proofs.Common.{◌≡◌, Bor, List, ℕ, [], get_or, map, string_bytes, codes, sym, subst, inl}
use Rattle.std.specs.List.{AllByRecursion}
use Rattle.std.specs.Option.{option_map_or}
use Rattle.std.proofs.lemmas.Option.{slice_get-get_or}
use Rattle.am_universe.proofs.ListLemmas.{IsIn-map, AllByRecursion-at}
use Rattle.am_universe.proofs.Members.{in_at}
use Rattle.am_classes.specs.Alphabet.{IsOver}
use Rattle.am_complete.specs.Representatives.{IsUsual}
use Rattle.am_complete.proofs.RepresentativeTexts.{all_gained}
use Rattle.am_complete.proofs.usual_texts.usual_texts.Goals as goal

abbrev text_of : Bor (List ℕ) × ℕ → List ℕ
text_of pair = pair.0.now

pub loop-pair-preserved : goal.loop-pair-preserved
loop-pair-preserved c =
    let So : List ℕ → Type 0 =
    IsUsual (option_map_or (λ a. a.now) c.args.alerts []) c.args.name.now in
    let old = map string_bytes c.loop-pair.texts.items in
    let new = map string_bytes c.push_new.new.texts.items in
    let pairs = c.deref-pair-items.result.now in
    let none : Bor (List ℕ) × ℕ = (record { ref_ptr = (0, 0); now = [] }, 0) in
    let pair = get_or pairs c.loop-pair.pair-index none in
    let all = subst (λ ps. AllByRecursion So (map text_of ps)) (sym c.deref-pair-items.ensures.value)
    c.in_ok-counted.ensures in
    let here : So (text_of pair) =
    AllByRecursion-at So (map text_of pairs) (text_of pair) all
    (IsIn-map text_of pairs pair (in_at pairs c.loop-pair.pair-index pair
    (slice_get-get_or pairs c.loop-pair.pair-index none c.loop-pair-test.true))) in
    record {
      over = all_gained (IsOver c.args.alphabet) _ old new c.loop-pair.invariant.over
          (λ x more. more.0) c.push_new.ensures;
      usual = all_gained So _ old new c.loop-pair.invariant.usual
          (λ x more. subst So (sym more.1) here) c.push_new.ensures;
    }

pub returns-clause-over : goal.returns-clause-over
returns-clause-over c =
    all_gained (IsOver c.args.alphabet) (λ x. IsOver c.args.alphabet x × (x ≡ codes "other"))
    (map string_bytes c.loop-pair.texts.items) (map string_bytes c.push_new-2.new.texts.items)
    c.loop-pair.invariant.over (λ x more. more.0) c.push_new-2.ensures

pub returns-clause-usual : goal.returns-clause-usual
returns-clause-usual c =
    all_gained (IsUsual (option_map_or (λ a. a.now) c.args.alerts []) c.args.name.now)
    (λ x. IsOver c.args.alphabet x × (x ≡ codes "other"))
    (map string_bytes c.loop-pair.texts.items) (map string_bytes c.push_new-2.new.texts.items)
    c.loop-pair.invariant.usual (λ x more. inl more.1) c.push_new-2.ensures
