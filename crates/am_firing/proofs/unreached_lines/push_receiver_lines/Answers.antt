-- One more receiver, and its lines.
use Rattle.std.proofs.Common.{◌<◌, None, false, get_or, length, arith}
use Rattle.std.specs.List.{zip}
use Rattle.std.proofs.lemmas.Option.{slice_get-get_or}
use Rattle.std.proofs.lemmas.Slice.Zip.{length-zip}
use Rattle.am_config.specs.ConfigView.{config_view}
use Rattle.am_firing.specs.FiringLines.{receiver_lines}
use Rattle.am_firing.proofs.Numbered.{zipped_at, one_more, all_done}
use Rattle.am_firing.proofs.unreached_lines.push_receiver_lines.Goals as goal

pub loop-i-preserved : goal.loop-i-preserved
loop-i-preserved c =
    let reached = c.args.reached.now in
    let findings = c.args.findings.now in
    let i = c.loop-i.i in
    let within : i < length reached = omega (arith, c.requires, c.loop-i-test.true) in
    one_more (receiver_lines c.args.whose (config_view c.args.config.now)) (zip reached findings) i
    (get_or reached i false, get_or findings i None) _ _ _
    (zipped_at reached findings i (get_or reached i false) (get_or findings i None)
    (slice_get-get_or reached i false within)
    (slice_get-get_or findings i None c.loop-i-test.true))
    c.loop-i.invariant c.in_ok-push_receiver_line.ensures

pub returns : goal.returns
returns c =
    let reached = c.args.reached.now in
    let findings = c.args.findings.now in
    all_done (receiver_lines c.args.whose (config_view c.args.config.now)) (zip reached findings)
    c.loop-i.i _ _ (omega (arith, length-zip reached findings, c.requires, c.loop-i-test.false))
    c.loop-i.invariant
