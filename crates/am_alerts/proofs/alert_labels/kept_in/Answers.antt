use Rattle.std.proofs.Common.{◌≡◌, ◌≤◌, ◌<◌, length, sym, ap, ◌∙◌, subst, arith, ◌&&◌, ◌||◌, All}
use Rattle.std.specs.Prelude.{slice_range}
use Rattle.std.proofs.lemmas.List.{take_at}
use Rattle.std.proofs.lemmas.Option.{slice_get_within}
use Rattle.am_alerts.specs.AlertLabels.{flag, is_at, all_pass}
use Rattle.am_alerts.proofs.AlertLabelLemmas.{alerts_below}
use Rattle.am_alerts.proofs.LabelRows.{all_below}
use Rattle.am_alerts.proofs.NamedLabels.{kept_of, each_at, at_named, named_in}
use Rattle.am_alerts.proofs.alert_labels.kept_in.Goals as goal

pub those_judged-requires-clause-positions : goal.those_judged-requires-clause-positions
those_judged-requires-clause-positions c =
    let alerts = c.args.sorted.now.alerts.now in
    let labels = c.args.sorted.now.labels.items in
    let range = c.args.known.now.range in
    subst (λ n. All (λ p. p < n) (slice_range c.deref.result.now range.0 range.1)) (sym c.requires.count)
    (all_below labels c.deref.result.now (length alerts) (c.requires.sorted.positions ∙ sym c.deref.ensures.value)
    (alerts_below alerts labels c.requires.sorted.all)
    range.0 range.1)

pub those_judged-requires-clause-each : goal.those_judged-requires-clause-each
those_judged-requires-clause-each c =
    let alerts = c.args.sorted.now.alerts.now in
    let labels = c.args.sorted.now.labels.items in
    let range = c.args.known.now.range in
    let exactly = c.requires.rows.range.exactly in
    λ full i lt. each_at alerts labels c.args.known.now.name.now (slice_range c.deref.result.now range.0 range.1)
    c.requires.sorted.all
    (at_named labels c.deref.result.now c.args.known.now.name.now range.0 range.1
    (c.requires.sorted.positions ∙ sym c.deref.ensures.value) c.requires.rows.range.ordered.0
    c.requires.rows.range.ordered.1 exactly)
    (full ∙ c.requires.count) i (omega (arith, lt, c.requires.count))

pub judge_all-requires-clause-sound : goal.judge_all-requires-clause-sound
judge_all-requires-clause-sound c =
    c.begin-absent.ensures.sound c.args.sorted.now.values.keys c.requires.sound

pub returns-clause-kept : goal.returns-clause-kept
returns-clause-kept c =
    let alerts = c.args.sorted.now.alerts.now in
    let among = c.args.among.items in
    let labels = c.args.sorted.now.labels.items in
    let name = c.args.known.now.name.now in
    let test = c.args.judge.now.test in
    let before = c.in_ok-kept.kept.items in
    let new = c.judge_all.new.kept in
    let range = c.args.known.now.range in
    let count : length new ≡ length before = c.in_ok-judge_all.ensures.count ∙ ap length c.deref_mut.ensures.value in
    let len : length new ≡ c.in_ok-kept.kept.len = omega (arith, count, c.in_ok-kept.kept.ok.0) in
    let exactly = c.requires.rows.range.exactly in
    let within : range.1 ≤ length labels = c.requires.rows.range.ordered.1 in
    let mine = named_in labels name range.0 range.1 c.requires.rows.range.ordered.0 within exactly in
    let positions = at_named labels c.deref.result.now name range.0 range.1
    (c.requires.sorted.positions ∙ sym c.deref.ensures.value) c.requires.rows.range.ordered.0 within exactly in
    let judged = rw (c.begin-absent.ensures.test, c.deref_mut.ensures.value)
    at c.in_ok-judge_all.ensures.judged in
    let whole = take_at new _ c.in_ok-kept.kept.len len in (
      ap length whole ∙ count ∙ c.in_ok-kept.ensures.count ∙ c.requires.count,
      λ i s at.
          let short : i < length among = omega (arith, slice_get_within alerts i s at, c.requires.count) in
          ap (λ flags. flag flags i) whole
          ∙ kept_of alerts labels name test (flag among i) (flag before i) (flag new i) i s
          c.requires.sorted.all at
          (c.in_ok-kept.ensures.those i short
          ∙ (λ j. flag among i && (c.begin-absent.ensures.empty j || is_at (positions j) i)))
          (judged i ∙ ap (λ ls. flag before i && all_pass test ls i) (sym mine)),
    )
