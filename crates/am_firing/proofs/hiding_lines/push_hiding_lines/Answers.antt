-- One more silence, and its lines.
use Rattle.std.proofs.Common.{◌<◌, length, refl, arith}
use Rattle.std.specs.List.{zip}
use Rattle.std.proofs.lemmas.Option.{slice_get_read}
use Rattle.std.proofs.lemmas.Slice.Zip.{length-zip}
use Rattle.am_universe.proofs.LabelPairLemmas.{found_at}
use Rattle.am_firing.specs.FiringLines.{told_lines}
use Rattle.am_firing.proofs.Numbered.{zipped_at, one_more, all_done}
use Rattle.am_firing.proofs.hiding_lines.push_hiding_lines.Goals as goal

pub loop-i-preserved : goal.loop-i-preserved
loop-i-preserved c =
    let w = c.args.world.now in
    let findings = c.args.silences.now in
    let i = c.loop-i.i in
    let within : i < length w.silences = omega (arith, c.requires.each, c.loop-i-test.true) in
    let there = found_at w.silences i within in
    let finding = c.index-silences-i.result in
    one_more (told_lines w) (zip w.silences findings) i (there.0, finding) _ _ _
    (zipped_at w.silences findings i there.0 finding there.1
    (slice_get_read findings (length findings) i finding refl c.loop-i-test.true
    c.index-silences-i.is)) c.loop-i.invariant
    (c.in_ok-push_told_lines.ensures there.0 there.1)

pub returns : goal.returns
returns c =
    let w = c.args.world.now in
    let findings = c.args.silences.now in
    all_done (told_lines w) (zip w.silences findings) c.loop-i.i _ _
    (omega (arith, length-zip w.silences findings, c.loop-i-test.false)) c.loop-i.invariant
