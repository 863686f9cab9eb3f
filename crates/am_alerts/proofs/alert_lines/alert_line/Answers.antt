use Rattle.std.proofs.Common.{◌≡◌, [], map, length, codes, sym, ap, ◌∙◌, if◌then◌else◌, string_bytes}
use Rattle.std.specs.Prelude.{◌==◌, slice_get}
use Rattle.std.specs.FinMap.{entries}
use Rattle.std.proofs.lemmas.List.{length-map}
use Rattle.std.proofs.lemmas.Option.{same_Some}
use Rattle.am_universe.specs.LabelSet.{LabelMap}
use Rattle.am_eval.specs.World.{World}
use Rattle.am_eval.specs.Silencing.{silencers}
use Rattle.am_report_texts.specs.Line as spec
use Rattle.am_report_texts.specs.ReceiverNames.{receiver_names}
use Rattle.am_alerts.specs.AlertLines.{words_before}
use Rattle.am_alerts.specs.SilenceIds.{called, name_at}
use Rattle.am_alerts.proofs.SilenceNames.{names_are}
use Rattle.am_alerts.proofs.alert_lines.alert_line.Goals as goal

pub returns : goal.returns
returns c = λ ids s named at.
    let w = c.args.outcomes.now in
    let outcome = c.at-outcome.ensures.outcome s at in
    let config = λ (w : World). w.config in
    let receiving = c.in_ok-receivers.ensures.names
    ∙ (λ j. receiver_names ((c.config.ensures.config ∙ ap config c.world-world.ensures.world) j) (outcome.receivers j)) in
    let silencing = c.in_ok-silencers.ensures ∙ ap (map (name_at (map string_bytes c.args.names.now))) outcome.silencers
    ∙ names_are w s ids (map string_bytes c.args.names.now) named in
    let muting = c.in_ok-intervals.ensures ∙ c.requires.muting s at in
    let set : c.get.result.now ≡ s =
    same_Some c.get.result.now s (sym c.get.ensures.alert ∙ ap (λ xs. slice_get xs c.args.position)
    (c.alerts.ensures.alerts ∙ ap (λ (w : World). w.alerts) c.world-world.ensures.world) ∙ at) in
    let labels = c.in_ok-labels.ensures ∙ ap (λ (t : LabelMap). spec.Labels (entries t)) set in
    let silenced_words = c.words_before.ensures
    ∙ ap (λ n. if n == 0 then [] else codes " silenced ")
    (ap length outcome.silencers ∙ sym (length-map (silencers w s) (called ids))) in
    let inhibited_words = c.words_before-2.ensures
    ∙ ap (words_before (codes " inhibited ")) outcome.inhibitors in
    let muted_words = c.words_before-3.ensures
    ∙ ap (λ n. if n == 0 then [] else codes " intervals ")
    (ap length c.as_slice.ensures.value
    ∙ sym (length-map c.in_ok-intervals.intervals.items (λ n. n.now)) ∙ ap length muting) in
    simp (
      c.in_ok-vec.ensures.items,
      labels,
      receiving,
      silenced_words,
      silencing,
      inhibited_words,
      outcome.inhibitors,
      muted_words,
      muting,
    )
