-- The text has the labels before the next one.
use Rattle.std.proofs.Common.{arith, ◌<◌, length, string_bytes, codes}
use Rattle.am_universe_command.proofs.TextSteps.{one_label_pushed}
use Rattle.am_universe_command.proofs.universe_file.universe_text.Goals as goal

pub loop-i-preserved : goal.loop-i-preserved
loop-i-preserved c =
    let within : c.loop-i.i < length c.args.universe.now =
    omega (arith, c.loop-i-test.true, c.len-i-end.ensures.len) in
    one_label_pushed c.args.universe.now c.loop-i.i (codes "{\"labels\": [")
    (string_bytes c.loop-i.text) _ _ _ within c.loop-i.invariant c.gap_before.ensures.gap
    c.in_ok-push_str.ensures.bytes c.in_ok-push_label.ensures
