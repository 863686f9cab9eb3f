use Rattle.std.proofs.Common.{◌≡◌, ◌<◌, ◌≤◌, ℕ, List, All, length, true, false, inl, inr, sym, ap, ◌∙◌, subst, arith, rules, ltb}
use lib.Dec.{leb}
use Rattle.std.specs.Borrow.{Bor}
use Rattle.std.specs.List.Sorted.{IsPartitionPoint}
use Rattle.std.proofs.lemmas.Bool.{cases_lt, ltb-true, ltb-false, leb-true, leb-false}
use Rattle.std.proofs.lemmas.List.Sorted.{IsPartitionedBy-ltb, IsPartitionedBy-leb, IsPartitionPoint-from_clause}
use Rattle.std.proofs.lemmas.Option.{slice_get_within, get_or_from_slice_get}
use Rattle.am_alerts.specs.declared.alert_labels.AlertLabel.{AlertLabel}
use Rattle.am_alerts.specs.Judge.{text_at}
use Rattle.am_alerts.specs.AlertLabels.{AreDistinct, HasNamePlace, IsRangeOf}
use Rattle.am_alerts.proofs.LabelRows.{blank}
use Rattle.am_alerts.proofs.alert_labels.range_of.Goals as goal

-- the same text is at one place
one_place : (texts : List (Bor (List ℕ))) → AreDistinct texts → (i j : ℕ) → i < length texts → j < length texts
    → text_at texts i ≡ text_at texts j → i ≡ j
one_place texts distinct i j first second same = elim (cases_lt i j) [
  | inl less ↦ absurd (distinct i j less second same)
  | inr more ↦ elim (cases_lt j i) [
    | inl less ↦ absurd (distinct j i less first (sym same))
    | inr most ↦ omega (arith, more, most)
  ]
]

-- the labels of a name are those from one point to another
between : (names : List (Bor (List ℕ))) (labels : List AlertLabel) (place a b : ℕ) → place < length names
    → AreDistinct names → All (HasNamePlace names) labels → a ≤ length labels → b ≤ length labels
    → IsPartitionPoint (λ (l : AlertLabel). ltb l.name_place place ≡ true) (λ (l : AlertLabel). ltb l.name_place place ≡ false) labels a
    → IsPartitionPoint (λ (l : AlertLabel). leb l.name_place place ≡ true) (λ (l : AlertLabel). leb l.name_place place ≡ false) labels b
    → IsRangeOf labels (text_at names place) (a, b)
between names labels place a b there distinct placed short within start end = record {
  ordered = (
    elim (cases_lt b a) [
      | inl less ↦
          let lt : b < length labels = omega (arith, less, short) in
          let one = ltb-true _ _ (start.0 b blank (omega arith) less) in
          let other = leb-false _ _ (end.1 b blank (omega arith) lt) in absurd (omega (arith, one, other))
      | inr more ↦ more
    ],
    within,
  );
  exactly = λ k l at.
      let lt : k < length labels = slice_get_within labels k l at in
      let here = get_or_from_slice_get labels k l l at in
      let has : HasNamePlace names l = subst (HasNamePlace names) here (placed k l lt) in (
        λ named.
            let same : l.name_place ≡ place = one_place names distinct l.name_place place has.0 there (has.1 ∙ named) in
            let mine = ap (λ (m : AlertLabel). m.name_place) here in (
              elim (cases_lt k a) [
                | inl less ↦
                    let one = ltb-true _ _ (start.0 k l (omega arith) less) in absurd (omega (arith, one, mine, same))
                | inr more ↦ more
              ],
              elim (cases_lt k b) [
                | inl less ↦ less
                | inr more ↦
                    let one = leb-false _ _ (end.1 k l more lt) in absurd (omega (arith, one, mine, same))
              ],
            ),
        λ inside.
            let one = ltb-false _ _ (start.1 k l inside.0 lt) in
            let other = leb-true _ _ (end.0 k l (omega arith) inside.1) in
            let same : l.name_place ≡ place = omega (arith, one, other, ap (λ (m : AlertLabel). m.name_place) here) in
            sym has.1 ∙ ap (text_at names) same,
      );
}

pub returns : goal.returns
returns c =
    let labels = c.args.labels.now in
    let place = c.args.place in
    let at = λ (l : AlertLabel). l.name_place in
    record {
      range = between c.args.names.now labels place c.partition_point-start.result c.partition_point-end.result
          c.requires.place c.requires.distinct c.requires.placed c.partition_point-start.ensures.bound
          c.partition_point-end.ensures.bound
          (IsPartitionPoint-from_clause (λ (l : AlertLabel). ltb l.name_place place) labels _
          c.partition_point-start.ensures.partitioned (IsPartitionedBy-ltb at labels place c.requires.sorted)
          (λ a r q k. search rules))
          (IsPartitionPoint-from_clause (λ (l : AlertLabel). leb l.name_place place) labels _
          c.partition_point-end.ensures.partitioned (IsPartitionedBy-leb at labels place c.requires.sorted)
          (λ a r q k. search rules));
    }
