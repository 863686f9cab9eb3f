-- The outcomes that are changes are those of the alerts that are not handled alike, and the
-- receivers that lose or gain alerts are those that have alerts under one configuration only.
use Rattle.std.proofs.Common.{◌≡◌, ◌⊎◌, ℕ, Bool, true, false, not, List, [], ◌∷◌, length}
use Rattle.std.proofs.Common.{Contains, map, refl, sym, ap, subst, ◌∙◌, inl, inr}
use Rattle.std.specs.Prelude.{◌||◌}
use Rattle.std.specs.List.{IsDistinct}
use Rattle.std.specs.Cmp.Lexicographic.{bytes_decides}
use Rattle.std.proofs.lemmas.Bool.{cases_Bool, false≢true}
use Rattle.std.proofs.lemmas.List.{nil_from_length}
use lib.Pointwise.{pointwise_decides}
use Rattle.am_universe.specs.Text.{same_text}
use Rattle.am_universe.specs.LabelSet.{LabelMap}
use Rattle.am_universe.proofs.ListLemmas.{IsIn, IsIn-map, IsIn-unmap, IsIn-from_Contains}
use Rattle.am_universe.proofs.ListLemmas.{Contains-from_IsIn, AllByRecursion-each}
use Rattle.am_universe.proofs.ListLemmas.{AllByRecursion-at}
use Rattle.am_labels.proofs.Passing.{passes_from_kept, kept_from_passes}
use Rattle.am_config.specs.ConfigFile.{Configuration}
use Rattle.am_eval.specs.Routing.{receivers}
use Rattle.am_report_texts.specs.ReceiverNames.{receiver_names}
use Rattle.am_outcomes.specs.Configurations.{Pair}
use Rattle.am_outcomes.specs.Handling.{IsHandledAlike, same_names}
use Rattle.am_outcomes.specs.Outcomes.{AreOutcomesOf, outcome_of, same_outcome}
use Rattle.am_outcomes.specs.Changes.{old_names, new_names, is_change, changes_of, is_only_among}
use Rattle.am_outcomes.specs.Changes.{first_on_one_side, losses, gains}
use Rattle.am_outcomes.proofs.FirstsLemmas.{Decides}
use Rattle.am_outcomes.proofs.ChangesFound.{alike_from_no_change, no_change_from_alike}
use Rattle.am_outcomes.proofs.ChangesFound.{only_from, only_there}
use Rattle.am_reports.specs.Comparing.{AreChanges, HasChange, IsChange, GoesOnlyUnder}
use Rattle.am_reports.specs.Comparing.{HaveAlertsOnlyUnder}
use Rattle.am_reports.proofs.KeptItems.{distinct_kept, without_items}
use Rattle.am_reports.proofs.OnlyUnder.{only_among, among_only, names_once}

names_decide : Decides same_names
names_decide = pointwise_decides bytes_decides

first_is : (a b : Bool) → (not a || b) ≡ false → a ≡ true
first_is true b h = refl
first_is false b h = absurd (false≢true (sym h))

abbrev both : Configuration → Configuration → LabelMap → List (List ℕ)
both old new set = outcome_of (Pair old new) set

-- ---- The changes among the outcomes of some alerts are those of these alerts.

module _ {C : Type 0} (Are : LabelMap → Type 0) (set_of : C → LabelMap) (old new : Configuration)
    (outcomes : List (List (List ℕ) × C))
    (are : AreOutcomesOf Are (Pair old new) set_of outcomes) where
  abbrev changes : List (List (List ℕ) × C)
  changes = changes_of old new outcomes

  -- an alert whose outcome is a change is not handled alike
  differs : (set : LabelMap) (found : List (List ℕ)) (first : C) → both old new set ≡ found
      → is_change old new (found, first) ≡ true → IsHandledAlike old new set → ⊥
  differs set found first has change alike =
      let none = no_change_from_alike old new set first alike in
      false≢true (sym none ∙ ap (λ (f : List (List ℕ)). is_change old new (f, first)) has ∙ change)

  is_so : (change : List (List ℕ) × C) → IsIn changes change → IsChange Are set_of old new change
  is_so change there =
      let kept = passes_from_kept (is_change old new) outcomes change there in
      let outcome = AllByRecursion-at (λ o. Are (set_of o.1) × (both old new (set_of o.1) ≡ o.0))
      outcomes change are.each kept.0 in (
        outcome.0,
        outcome.1,
        differs (set_of change.1) change.0 change.1 outcome.1 kept.1,
      )

  abbrev IsTold : LabelMap → Type 0
  IsTold alert = IsHandledAlike old new alert ⊎ HasChange Are set_of old new changes alert

  is_told : (alert : LabelMap) → Are alert → IsTold alert
  is_told alert counts =
      let lists = map (λ (o : List (List ℕ) × C). o.0) outcomes in
      let there = IsIn-from_Contains lists (both old new alert) (are.all alert counts) in
      let (outcome, is, has) = IsIn-unmap (λ (o : List (List ℕ) × C). o.0) outcomes
      (both old new alert) there in
      elim (cases_Bool (is_change old new outcome)) [
        | inl change ↦
            let kept = kept_from_passes (is_change old new) outcomes outcome is change in
            let told = Contains-from_IsIn (map (λ (o : List (List ℕ) × C). o.0) changes) outcome.0
            (IsIn-map (λ (o : List (List ℕ) × C). o.0) changes outcome kept) in
            inr (subst (Contains (map (λ (o : List (List ℕ) × C). o.0) changes)) has told)
        | inr none ↦
            let same = ap (λ (f : List (List ℕ)). is_change old new (f, outcome.1)) has in
            inl (alike_from_no_change old new alert outcome.1 (sym same ∙ none))
      ]

  not_both : (alert : LabelMap) → IsHandledAlike old new alert
      → HasChange Are set_of old new changes alert → ⊥
  not_both alert alike told =
      let there = IsIn-from_Contains (map (λ (o : List (List ℕ) × C). o.0) changes)
      (both old new alert) told in
      let (change, is, has) = IsIn-unmap (λ (o : List (List ℕ) × C). o.0) changes
      (both old new alert) there in
      let kept = passes_from_kept (is_change old new) outcomes change is in
      differs alert change.0 change.1 (sym has) kept.1 alike

  pub changes_are : AreChanges Are set_of old new changes
  changes_are = record {
    each = AllByRecursion-each (IsChange Are set_of old new) changes is_so;
    all = is_told;
    alike = λ alert counts. not_both alert;
    once = distinct_kept same_outcome (λ (o : List (List ℕ) × C). o.0) (is_change old new)
        outcomes are.once;
  }

-- ---- What follows from the changes of some alerts.

module _ {C : Type 0} (Are : LabelMap → Type 0) (set_of : C → LabelMap) (old new : Configuration)
    (changes : List (List (List ℕ) × C))
    (each : (change : List (List ℕ) × C) → IsIn changes change
    → IsChange Are set_of old new change)
    (all : (alert : LabelMap) → Are alert
    → IsHandledAlike old new alert ⊎ HasChange Are set_of old new changes alert) where
  abbrev AllAreHandledAlike : Type 0
  AllAreHandledAlike = (alert : LabelMap) → Are alert → IsHandledAlike old new alert

  none_has : (cs : List (List (List ℕ) × C)) → cs ≡ [] → (lists : List (List ℕ))
      → Contains (map (λ (o : List (List ℕ) × C). o.0) cs) lists → ⊥
  none_has [] none lists told = IsIn-from_Contains [] lists told
  none_has (c ∷ cs) none lists told = absurd cc

  pub none_told : length changes ≡ 0 → AllAreHandledAlike
  none_told none alert counts = elim (all alert counts) [
    | inl alike ↦ alike
    | inr told ↦
        absurd (none_has changes (nil_from_length changes none) (both old new alert) told)
  ]

  pub none_there : AllAreHandledAlike → length changes ≡ 0
  none_there same =
      without_items changes (λ change there.
      let so = each change there in
      so.2 (same (set_of change.1) so.0))

  -- ---- Receivers that have alerts under one configuration only.

  unchanged_names : (set : LabelMap) → IsHandledAlike old new set
      → receiver_names old (receivers set old) ≡ receiver_names new (receivers set new)
  unchanged_names set alike =
      let olds = receiver_names old (receivers set old) in
      let news = receiver_names new (receivers set new) in
      (names_decide olds news).0
      (first_is (same_names olds news) _ (no_change_from_alike old new set {C = ℕ} 0 alike))

  module _ (c other : Configuration) (names others : List (List ℕ) → List (List ℕ))
      (names_are : (set : LabelMap)
      → names (both old new set) ≡ receiver_names c (receivers set c))
      (others_are : (set : LabelMap)
      → others (both old new set) ≡ receiver_names other (receivers set other))
      (unchanged : (set : LabelMap) → IsHandledAlike old new set
      → receiver_names c (receivers set c) ≡ receiver_names other (receivers set other)) where
    abbrev found : List (List ℕ × C)
    found = first_on_one_side names others changes c.receivers

    goes_only : (set : LabelMap) (lists : List (List ℕ)) (name : List ℕ)
        → both old new set ≡ lists → is_only_among (names lists) (others lists) name ≡ true
        → GoesOnlyUnder c other set name
    goes_only set lists name has only =
        only_among (receiver_names c (receivers set c)) (receiver_names other (receivers set other))
        name (rw (sym has, names_are set, others_are set) at only)

    each_goes : (f : List ℕ × C) → IsIn found f
        → Are (set_of f.1) × GoesOnlyUnder c other (set_of f.1) f.0
    each_goes f there =
        let (declared, change, is, choice, only) =
        only_from names others changes c.receivers f there in
        let outcome = each change is in
        subst (λ (first : C). Are (set_of first) × GoesOnlyUnder c other (set_of first) f.0) choice
        (outcome.0, goes_only (set_of change.1) change.0 f.0 outcome.1 only)

    all_there : (name : List ℕ) → Contains c.receivers name → (alert : LabelMap) → Are alert
        → GoesOnlyUnder c other alert name → Contains (map (λ f. f.0) found) name
    all_there name declared alert counts (goes, goes_not) = elim (all alert counts) [
      | inl alike ↦
          absurd (goes_not (subst (λ (ns : List (List ℕ)). Contains ns name)
          (unchanged alert alike) goes))
      | inr told ↦
          let there = IsIn-from_Contains (map (λ (o : List (List ℕ) × C). o.0) changes)
          (both old new alert) told in
          let (change, is, has) = IsIn-unmap (λ (o : List (List ℕ) × C). o.0) changes
          (both old new alert) there in
          let only : is_only_among (names (both old new alert)) (others (both old new alert)) name
          ≡ true = rw (names_are alert, others_are alert) (among_only _ _ name goes goes_not) in
          Contains-from_IsIn (map (λ f. f.0) found) name
          (only_there names others changes c.receivers name change
          (IsIn-from_Contains c.receivers name declared) is (rw has only))
    ]

    only_under : IsDistinct same_text c.receivers
        → HaveAlertsOnlyUnder Are set_of c other found
    only_under distinct = record {
      each = AllByRecursion-each (λ f. Are (set_of f.1)
          × GoesOnlyUnder c other (set_of f.1) f.0) found each_goes;
      all = all_there;
      once = names_once names others changes c.receivers distinct;
    }

  pub lose : IsDistinct same_text old.receivers
      → HaveAlertsOnlyUnder Are set_of old new (losses old new changes)
  lose =
      only_under old new (old_names old) (new_names new) (λ set. refl) (λ set. refl) unchanged_names

  pub gain : IsDistinct same_text new.receivers
      → HaveAlertsOnlyUnder Are set_of new old (gains old new changes)
  gain =
      only_under new old (new_names new) (old_names old) (λ set. refl) (λ set. refl)
      (λ set alike. sym (unchanged_names set alike))
