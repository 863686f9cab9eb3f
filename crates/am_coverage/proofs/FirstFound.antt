-- The first choice of a space whose label set has a property, as a test finds it.
use Rattle.std.proofs.Common.{◌≡◌, ◌↔◌, ℕ, List, [], ◌∷◌, Bool, false, Option, Some, None}
use Rattle.std.proofs.Common.{refl, sym, ap, ◌∙◌, subst, slice_get}
use Rattle.std.specs.Prelude.{IsTrue}
use Rattle.std.specs.List.{filter}
use Rattle.std.specs.Ordering.{nat_cmp}
use Rattle.std.specs.Cmp.Lexicographic.{slice_cmp}
use Rattle.std.proofs.lemmas.Bool.{both_ways, false_from_ne_true}
use Rattle.std.proofs.lemmas.List.Kept.{IsStrictlySortedBy-filter}
use Rattle.am_universe.specs.LabelSet.{LabelMap, label_set_of}
use Rattle.am_universe.proofs.ListLemmas.{IsIn, IsIn-from_Contains, Contains-from_IsIn}
use Rattle.am_labels.specs.Space.{Space, all_choices, IsChoiceOf}
use Rattle.am_labels.proofs.SpaceLaws.{space_choices, space_choices_sorted}
use Rattle.am_eval.specs.Reaching.{SomeIs, IsSetOf}
use Rattle.am_search.specs.Start.{comes_before}
use Rattle.am_search.proofs.ChoiceOrder.{Ascends, first_is, in_filter, into_filter, none_found}
use Rattle.am_first_sets.proofs.FirstPossible.{find_first, is_found, none_passes}
use Rattle.am_coverage.specs.Coverage.{first_passing}
use Rattle.am_coverage.specs.Report.{IsFirstChoice, IsFirst}
use Rattle.am_coverage.proofs.EarliestFound.{none_before}

-- in a list that ascends, no item comes before the first
at_front : (xs : List (List ℕ)) (x y : List ℕ) → Ascends xs → slice_get xs 0 ≡ Some x → IsIn xs y
    → comes_before y x ≡ false
at_front [] x y s e i = absurd i
at_front (z ∷ zs) x y s e i =
    let same : z ≡ x = cc in ap (comes_before y) (sym same) ∙ none_before z zs y s i

-- so a label set of the space has the property
pub some_first : (s : Space) (Is : LabelMap → Type 0) (choice : List ℕ)
    → IsFirstChoice s Is choice → SomeIs (IsSetOf s) Is
some_first s Is choice first =
    (label_set_of s.labels choice, (choice, first.possible, refl), first.has)

-- Among all choices of a space, by a test that says which label sets have the property.
module _ (s : Space) (test : LabelMap → Bool) (Is : LabelMap → Type 0)
    (exact : (set : LabelMap) → IsTrue (test set) ↔ Is set) where
  abbrev passes : List ℕ → Bool
  passes choice = test (label_set_of s.labels choice)

  possible : (choice : List ℕ) → IsIn (all_choices s) choice → IsChoiceOf s choice
  possible choice i = (space_choices s choice).0 (Contains-from_IsIn (all_choices s) choice i)

  -- the choices that pass, in order
  abbrev kept : List (List ℕ)
  kept = filter passes (all_choices s)

  kept_sorted : Ascends kept
  kept_sorted =
      IsStrictlySortedBy-filter (slice_cmp nat_cmp) passes (all_choices s) (space_choices_sorted s)

  into_kept : (choice : List ℕ) → IsChoiceOf s choice → Is (label_set_of s.labels choice)
      → IsIn kept choice
  into_kept choice is has =
      into_filter passes (all_choices s) choice
      (IsIn-from_Contains (all_choices s) choice ((space_choices s choice).1 is))
      ((exact (label_set_of s.labels choice)).1 has)

  -- what is found is the first choice with the property, and nothing is found if none has it
  pub first_exactly : (o : Option (List ℕ)) → IsFirst s Is o ↔ (first_passing s test ≡ o)
  first_exactly None = (
    λ none.
        none_found passes (all_choices s) (λ choice i.
        false_from_ne_true (passes choice) (λ e.
        none (label_set_of s.labels choice) (choice, possible choice i, refl)
        ((exact (label_set_of s.labels choice)).0 e))),
    λ e set is has.
        both_ways (passes is.0) (none_passes s passes (sym e) is.0 is.1)
        ((exact (label_set_of s.labels is.0)).1 (subst Is is.2 has)),
  )
  first_exactly (Some choice) = (
    λ first.
        find_first passes (all_choices s)
        ∙ first_is kept choice kept_sorted (into_kept choice first.possible first.has) (λ x i.
        let r = in_filter passes (all_choices s) x i in
        first.first x (possible x r.0) ((exact (label_set_of s.labels x)).0 r.1)),
    λ e.
        let r = is_found passes (all_choices s) choice e in
        record {
          possible = possible choice r.0;
          has = (exact (label_set_of s.labels choice)).0 r.1;
          first = λ other is has.
              at_front kept choice other kept_sorted (sym (find_first passes (all_choices s)) ∙ e)
              (into_kept other is has);
        },
  )

  pub some_found : SomeIs (IsSetOf s) Is
      → (first : List ℕ) × (first_passing s test ≡ Some first)
  some_found some = by (first_passing s test) refl
    where
      by : (o : Option (List ℕ)) → first_passing s test ≡ o → (first : List ℕ) × (o ≡ Some first)
      by None e = absurd ((first_exactly None).1 e some.0 some.1 some.2)
      by (Some first) e = (first, refl)
