use Rattle.std.proofs.Common.{◌<◌, length, refl, arith}
use Rattle.std.proofs.lemmas.Option.{slice_get_read}
use Rattle.am_complete.proofs.RepresentativeTexts.{counted_again}
use Rattle.am_complete.proofs.usual_texts.count_again.Goals as goal

pub returns-then-place-len : goal.returns-then-place-len
returns-then-place-len c =
    let counted = c.args.counted.now.items in
    let pair = c.index_mut.result.now in
    let below : c.args.place < length counted =
    omega (arith, c.if-place-len.true, c.len.ensures, c.args.counted.now.ok.0) in
    counted_again counted c.args.place c.saturating_add.result pair
    (slice_get_read counted _ c.args.place pair refl below c.index_mut.ensures.value)
