use Rattle.std.proofs.Common.{◌≡◌, ap, sym, ◌∙◌, append-nil}
use Rattle.std.specs.FinMap.{entries}
use Rattle.am_universe.specs.LabelSetView.{entry_texts}
use Rattle.am_universe.proofs.MapTextLemmas.{entries_kept}
use Rattle.am_report_texts.specs.Line as spec
use Rattle.am_alerts.proofs.alert_lines.labels_of.Goals as goal

pub returns : goal.returns
returns c =
    let gives = c.into_iter-name-iterator.ensures.into_iter_gives in
    let kept : entries c.args.set.now ≡ entry_texts c.into_iter-name-iterator.result =
    ap entries (sym c.values-name-items.ensures.values)
    ∙ entries_kept c.values-name-items.result.now gives.5 ∙ ap entry_texts (sym gives.0) in
    let all = rw (c.in-None.ensures.steps.0, append-nil) at c.loop-name.invariant in
    ap spec.Labels (all ∙ sym kept)
