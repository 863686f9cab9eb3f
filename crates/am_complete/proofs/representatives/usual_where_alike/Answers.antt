use Rattle.std.proofs.Common.{ℕ, List, [], map, string_bytes, sym, subst}
use Rattle.std.proofs.lemmas.Result.{IfOk-weaker}
use Rattle.am_classes.specs.Alphabet.{AreOver}
use Rattle.am_complete.specs.Covering.{AreClasses}
use Rattle.std.specs.List.{AllByRecursion}
use Rattle.std.specs.Option.{option_map_or}
use Rattle.am_classes.specs.declared.tested.Tested.{Tested}
use Rattle.am_complete.specs.Chosen.{AreChosenEach}
use Rattle.am_complete.specs.Representatives.{GainsOnly, IsUsual}
use Rattle.am_complete.proofs.ChosenTexts.{classes_chosen}
use Rattle.am_complete.proofs.RepresentativeTexts.{chosen_gained, none_gained}
use Rattle.am_complete.proofs.representatives.usual_where_alike.Goals as goal

pub returns-then-len-gt-MAX_VALUES-clause-classes : goal.returns-then-len-gt-MAX_VALUES-clause-classes
returns-then-len-gt-MAX_VALUES-clause-classes c = λ all is classes. classes

pub returns-then-len-gt-MAX_VALUES-clause-from : goal.returns-then-len-gt-MAX_VALUES-clause-from
returns-then-len-gt-MAX_VALUES-clause-from c = none_gained _ (map string_bytes c.args.texts.items)

pub returns-clause-classes : goal.returns-clause-classes
returns-clause-classes c =
    let a = c.args.alphabet in
    let ms = c.args.label.now.matchers in
    let usual = c.in_ok-usual-2.usual.items in
    let wanted = c.in_ok-wanted.wanted.items in
    IfOk-weaker c.chosen_texts.result _ _ (λ chosen each all is classes.
    classes_chosen a ms usual wanted (map string_bytes chosen.items)
    (c.in_ok-usual-2.ensures.tested ms is) (c.in_ok-wanted.ensures.tested ms is)
    (subst (AreOver a) (sym c.in_ok-usual-2.ensures.texts) c.in_ok-usual.ensures.over)
    (subst (λ (ws : List Tested). AreChosenEach usual ws (map string_bytes chosen.items))
    c.as_slice-2.ensures.value
    (subst (λ (us : List Tested).
    AreChosenEach us c.as_slice-2.result.now (map string_bytes chosen.items))
    c.as_slice.ensures.value each)) all
    (subst (λ (xs : List (List ℕ)). AreClasses a ms xs all) (sym c.in_ok-wanted.ensures.texts)
    classes)) c.chosen_texts.ensures

pub returns-clause-from : goal.returns-clause-from
returns-clause-from c =
    let usual = c.in_ok-usual-2.usual.items in
    let wanted = c.in_ok-wanted.wanted.items in
    let So : List ℕ → Type 0 = IsUsual (option_map_or (λ a. a.now) c.args.alerts []) c.args.label.now.name in
    IfOk-weaker c.chosen_texts.result _ _ (λ chosen each.
    let xs = map string_bytes chosen.items in
    subst (λ (ts : List (List ℕ)). GainsOnly So ts xs) c.in_ok-wanted.ensures.texts
    (chosen_gained So usual wanted xs
    (subst (λ (ws : List Tested). AreChosenEach usual ws xs) c.as_slice-2.ensures.value
    (subst (λ (us : List Tested). AreChosenEach us c.as_slice-2.result.now xs) c.as_slice.ensures.value each))
    (subst (AllByRecursion So) (sym c.in_ok-usual-2.ensures.texts)
    (subst (λ n. AllByRecursion (IsUsual (option_map_or (λ a. a.now) c.args.alerts []) n) (map string_bytes c.in_ok-usual.usual.items))
    c.name.ensures.name c.in_ok-usual.ensures.usual)))) c.chosen_texts.ensures
