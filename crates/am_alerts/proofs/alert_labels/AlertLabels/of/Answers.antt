use Rattle.std.proofs.Common.{ℕ, List, [], All, map, sym, ap, ◌∙◌, subst, rules}
use Rattle.std.proofs.lemmas.List.Sorted.{IsPermutation-map, IsPermutation-trans, All-permutation, IsNonDecreasingBy-from_sort_by_key}
use Rattle.std.proofs.lemmas.Bool.{true≢false}
use Rattle.std.proofs.lemmas.Map.Keys.{apart_from_distinct}
use Rattle.std.proofs.lemmas.Slice.Eq.{bytes_eq-Decides}
use Rattle.std.specs.Borrow.{Bor}
use Rattle.std.specs.List.Sorted.{IsPermutation, IsNonDecreasingBy}
use Rattle.am_alerts.specs.declared.alert_labels.AlertLabel.{AlertLabel}
use Rattle.am_alerts.specs.AlertLabels.{label_view, AreDistinct, HasPlace, HasNamePlace, AreNameRows}
use Rattle.am_alerts.proofs.alert_labels.AlertLabels.of.Goals as goal

abbrev none : Bor (List ℕ)
none = record { ref_ptr = (0, 0); now = [] }

pub all_rows-requires-clause-sorted : goal.all_rows-requires-clause-sorted
all_rows-requires-clause-sorted c =
    subst (IsNonDecreasingBy (λ (l : AlertLabel). l.name_place)) (sym c.as_slice-3.ensures.value)
    (IsNonDecreasingBy-from_sort_by_key (λ (l : AlertLabel). l.name_place) _ c.in_ok-sort_by_key.ensures.sorted
    (λ a r g h. search rules))

pub all_rows-requires-clause-placed : goal.all_rows-requires-clause-placed
all_rows-requires-clause-placed c =
    let second = c.in_ok-sort_by_key.ensures.permutation in
    let names = c.as_slice-2.result.now in
    subst (All (HasNamePlace names)) (sym c.as_slice-3.ensures.value)
    (All-permutation (HasNamePlace names) _ _ second
    (All-permutation (HasNamePlace names) _ _ c.sort_unstable_by_key.ensures.permutation
    (subst (λ ns. All (HasNamePlace ns) c.in_ok-labels.labels.items) (sym c.as_slice-2.ensures.keys)
    c.in_ok-labels.ensures.names)))

pub all_rows-requires-clause-distinct : goal.all_rows-requires-clause-distinct
all_rows-requires-clause-distinct c =
    subst AreDistinct (sym c.as_slice-2.ensures.keys) (λ i j less lt same.
    true≢false (sym ((bytes_eq-Decides _ _).1 same)
    ∙ apart_from_distinct _ c.labels_of.new.names.keys i j none c.as_slice-2.ensures.unique less lt))

pub invariant_of-result : goal.invariant_of-result
invariant_of-result c =
    let first = c.sort_unstable_by_key.ensures.permutation in
    let second = c.in_ok-sort_by_key.ensures.permutation in
    let names = c.labels_of.new.names.keys in
    let values = c.labels_of.new.values.keys in
    let labels = c.in_ok-labels.labels.items in
    record {
      all = IsPermutation-trans _ _ _
          (subst (λ views. IsPermutation views (map label_view c.sort_unstable_by_key.new.self.items)) c.in_ok-labels.ensures.labels
          (IsPermutation-map label_view labels _ first))
          (IsPermutation-map label_view _ _ second);
      positions = ap (map (λ (l : AlertLabel). l.alert)) (sym c.as_slice.ensures.value) ∙ c.in_ok-positions.ensures;
      name_places = All-permutation (HasNamePlace names) _ _ second
          (All-permutation (HasNamePlace names) _ _ first c.in_ok-labels.ensures.names);
      places = All-permutation (HasPlace values) _ _ second
          (All-permutation (HasPlace values) _ _ first c.in_ok-labels.ensures.values);
      names = c.in_ok-rows.ensures.names
          ∙ ap (map (λ (name : Bor (List ℕ)). name.now)) c.as_slice-2.ensures.keys;
      rows = subst (λ ls. All (AreNameRows ls) c.in_ok-rows.rows.items)
          c.as_slice-3.ensures.value c.in_ok-rows.ensures.rows;
    }
