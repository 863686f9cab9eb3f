use Rattle.std.proofs.Common.{◌≡◌, ℕ, ◌<◌, ◌≤◌, ◌&&◌, ◌||◌, not, length, get_or, Some, sym, ap, ◌∙◌, subst, arith, All}
use Rattle.std.specs.Prelude.{slice_get, slice_range}
use Rattle.std.proofs.lemmas.Option.{slice_get-get_or, slice_get_within, get_or_from_slice_get}
use Rattle.am_alerts.specs.declared.alert_labels.AlertLabel.{AlertLabel}
use Rattle.am_alerts.specs.declared.alert_labels.Row.{Row}
use Rattle.am_alerts.specs.declared.alert_labels.SortedLabels.{SortedLabels}
use Rattle.am_alerts.specs.Judge.{passes, text_at}
use Rattle.am_alerts.specs.AlertLabels.{flag, HasPlace, AreSorted, is_at, all_pass}
use Rattle.am_alerts.proofs.AlertLabelLemmas.{alerts_below, both_kept}
use Rattle.am_alerts.proofs.LabelRows.{all_below, blank, in_range, row_at, row_judged}
use Rattle.am_alerts.proofs.alert_labels.judge_all.Goals as goal

abbrev blank_row : Row
blank_row = record { end = 0; place = 0; first = 0 }

-- each label has its place
placed_at : (sorted : SortedLabels) → AreSorted sorted → (k : ℕ) (l : AlertLabel)
    → slice_get sorted.labels.items k ≡ Some l → HasPlace sorted.values.keys l
placed_at sorted are k l at =
    let labels = sorted.labels.items in
    subst (HasPlace sorted.values.keys) (get_or_from_slice_get labels k l l at)
    (are.places k l (slice_get_within labels k l at))

pub judge_row-requires-clause-positions : goal.judge_row-requires-clause-positions
judge_row-requires-clause-positions c =
    let sorted = c.args.sorted.now in
    let alerts = sorted.alerts.now in
    let labels = sorted.labels.items in
    let row = get_or c.deref-row-items.result.now c.loop-row.row-index blank_row in
    subst (λ n. All (λ p. p < n) (slice_range c.deref.result.now c.loop-row.start row.end))
    (sym (c.loop-row.auto.kept ∙ c.requires.count))
    (all_below labels c.deref.result.now (length alerts) (c.requires.sorted.positions ∙ sym c.deref.ensures.value)
    (alerts_below alerts labels c.requires.sorted.all) c.loop-row.start row.end)

pub judge_row-requires-clause-place : goal.judge_row-requires-clause-place
judge_row-requires-clause-place c =
    let sorted = c.args.sorted.now in
    let labels = sorted.labels.items in
    let k = c.loop-row.start in
    let row = get_or c.deref-row-items.result.now c.loop-row.row-index blank_row in
    let tile = row_at labels k c.args.known.now.range.1 c.args.known.now.rows.items c.deref-row-items.result.now
    c.loop-row.row-index blank_row c.deref-row-items.ensures.value c.loop-row.invariant.left c.loop-row-test.true in
    let lt : k < length labels =
    omega (arith, tile.0, tile.1, c.requires.rows.range.ordered.1) in
    let l = get_or labels k blank in
    let here : slice_get labels k ≡ Some l = slice_get-get_or labels k blank lt in
    let there = (placed_at sorted c.requires.sorted k l here).0 in
    omega (
      arith,
      there,
      tile.2 k l (omega arith) tile.0 here,
      ap length c.as_slice-values.ensures.keys,
    )

pub loop-row-preserved : goal.loop-row-preserved
loop-row-preserved c =
    let sorted = c.args.sorted.now in
    let labels = sorted.labels.items in
    let values = c.as_slice-values.result.now in
    let positions = c.deref.result.now in
    let before = c.args.kept.now in
    let test = c.args.judge.now.test in
    let old = c.loop-row.invariant in
    let a = c.args.known.now.range.0 in
    let k = c.loop-row.start in
    let row = get_or c.deref-row-items.result.now c.loop-row.row-index blank_row in
    let b = row.end in
    let tile = row_at labels k c.args.known.now.range.1 c.args.known.now.rows.items c.deref-row-items.result.now
    c.loop-row.row-index blank_row c.deref-row-items.ensures.value old.left c.loop-row-test.true in
    let more : k ≤ b = omega (arith, tile.0) in
    let within : b ≤ length labels = omega (arith, tile.1, c.requires.rows.range.ordered.1) in
    record {
      from = omega (arith, old.from, more);
      within = tile.1;
      left = tile.3;
      test = c.in_ok-judge_row.ensures.test ∙ old.test;
      sound = c.in_ok-judge_row.ensures.sound;
      judged = λ i.
          both_kept (flag before i) (all_pass test (slice_range labels a k) i)
          (passes test (text_at values row.place) || not (is_at (slice_range positions k b) i)) _ _ (old.judged i)
          (c.in_ok-judge_row.ensures.judged i
          ∙ ap (λ t. flag c.loop-row.kept i && (passes t (text_at values row.place) || not (is_at (slice_range positions k b) i)))
          old.test)
          ∙ ap (λ x. flag before i && x)
          (row_judged labels positions test a k b (text_at values row.place)
          (c.requires.sorted.positions ∙ sym c.deref.ensures.value) old.from more within
          (λ m there.
          let r = in_range labels k b m within there in
          sym (placed_at sorted c.requires.sorted r.0 m r.3).1
          ∙ ap (text_at sorted.values.keys) (tile.2 r.0 m r.1 r.2 r.3)
          ∙ ap (λ vs. text_at vs row.place) (sym c.as_slice-values.ensures.keys)) i);
    }
