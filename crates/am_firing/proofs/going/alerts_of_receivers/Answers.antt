-- The positions for one more receiver.
use Rattle.std.proofs.Common.{◌≡◌, length, map, refl, ap, ◌∙◌, arith}
use Rattle.std.proofs.lemmas.List.{map-append}
use Rattle.std.proofs.lemmas.List.FromFn.{map-range_with_len_more}
use Rattle.std.proofs.lemmas.List.Elements.{All-from_recursion}
use Rattle.am_config.specs.ConfigFile.{Configuration}
use Rattle.am_firing.specs.Going.{positions_of}
use Rattle.am_firing.proofs.MarkedRows.{rows_wide, marked_rows}
use Rattle.am_firing.proofs.going.alerts_of_receivers.Goals as goal

pub positions_marked-requires : goal.positions_marked-requires
positions_marked-requires c =
    let w = c.args.world.now in
    let count : c.receivers-receiver-end.result ≡ length w.config.receivers =
    c.receivers-receiver-end.ensures.count
    ∙ ap (λ (k : Configuration). length k.receivers) c.config-2.ensures.config in
    All-from_recursion _ c.as_slice.result.now
    (rows_wide w.config c.loop-receiver.receiver (omega (arith, count)) c.as_slice.result.now w.alerts
    (ap (map (λ marks. marks.items)) c.as_slice.ensures.value ∙ c.in_ok-marks.ensures))

pub loop-receiver-preserved : goal.loop-receiver-preserved
loop-receiver-preserved c =
    let w = c.args.world.now in
    let receiver = c.loop-receiver.receiver in
    let count : c.receivers-receiver-end.result ≡ length w.config.receivers =
    c.receivers-receiver-end.ensures.count
    ∙ ap (λ (k : Configuration). length k.receivers) c.config-2.ensures.config in
    let is : c.in_ok-positions_marked.field-0.items ≡ positions_of w receiver =
    c.in_ok-positions_marked.ensures
    ∙ marked_rows w receiver (omega (arith, count)) c.as_slice.result.now
    (ap (map (λ marks. marks.items)) c.as_slice.ensures.value ∙ c.in_ok-marks.ensures) in
    rw (
      c.in_ok-push.ensures.items,
      map-append,
      is,
      map-range_with_len_more (positions_of w) 0 receiver receiver (omega arith),
      c.loop-receiver.invariant,
    ) refl
