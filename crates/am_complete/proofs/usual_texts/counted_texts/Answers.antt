use Rattle.std.proofs.Common.{◌∷◌, [], Bor, List, ℕ, map, sym, ap, ◌∙◌, subst, inr}
use Rattle.std.specs.List.{AllByRecursion}
use Rattle.std.specs.Option.{option_map_or}
use Rattle.std.proofs.lemmas.List.{map-append}
use Rattle.std.proofs.lemmas.List.Sorted.{IsPermutation-map}
use Rattle.am_universe.proofs.DistinctLists.{all_push}
use Rattle.am_universe.proofs.ListLemmas.{Contains-from_IsIn}
use Rattle.am_universe.proofs.Members.{in_at}
use Rattle.am_complete.specs.Representatives.{IsUsual}
use Rattle.am_complete.proofs.RepresentativeTexts.{all_moved}
use Rattle.am_complete.proofs.usual_texts.counted_texts.Goals as goal
use Rattle.am_complete.proofs.usual_texts.counted_texts.Goals.{in-Some-get, in_default-get+in_ok-insert+in_ok-push}

abbrev text_of : Bor (List ℕ) × ℕ → List ℕ
text_of pair = pair.0.now

pub loop-i-preserved : goal.loop-i-preserved
loop-i-preserved c =
    let alerts = c.in-Some.alerts.now in
    let name = c.args.name.now in
    let before = c.loop-i.counted.items in
    elim c.match-get.branch [
      | in-Some-get w ↦
          subst (λ v. AllByRecursion (IsUsual alerts name) (map text_of v.items)) (sym w.counted-is)
          (subst (AllByRecursion (IsUsual alerts name)) (sym w.count_again.ensures) c.loop-i.invariant)
      | in_default-get+in_ok-insert+in_ok-push w ↦
          let alert = c.get.result.now in
          let usual : IsUsual alerts name c.get-text.result.now = inr (
            alert,
            Contains-from_IsIn alerts alert (in_at alerts c.loop-i.i alert c.get.ensures.alert),
            sym c.get-text.ensures.value,
          ) in
          subst (λ v. AllByRecursion (IsUsual alerts name) (map text_of v.items)) (sym w.counted-is)
          (subst (AllByRecursion (IsUsual alerts name))
          (sym (ap (map text_of) w.in_ok-push.ensures.items ∙ map-append text_of before ((c.get-text.result, 1) ∷ [])))
          (all_push (IsUsual alerts name) (map text_of before) c.get-text.result.now c.loop-i.invariant usual))
    ]

pub returns : goal.returns
returns c =
    let old = c.loop-i.counted.items in
    let new = c.sort_by_key.new.self.items in
    subst (λ alerts. AllByRecursion (IsUsual (option_map_or (λ a. a.now) alerts []) c.args.name.now) (map text_of new))
    (sym c.in-Some.is)
    (all_moved (IsUsual c.in-Some.alerts.now c.args.name.now) (map text_of old) (map text_of new)
    (IsPermutation-map text_of old new c.sort_by_key.ensures.permutation) c.loop-i.invariant)
