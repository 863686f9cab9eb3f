-- The text has the values before the next one.
use Rattle.std.proofs.Common.{string_bytes}
use Rattle.am_universe_command.proofs.TextSteps.{value_pushed, values_pushed}
use Rattle.am_universe_command.proofs.universe_file.push_values.Goals as goal

pub loop-j-preserved : goal.loop-j-preserved
loop-j-preserved c = λ label here.
    value_pushed c.args.universe.now c.args.i c.size-j-end.result c.loop-j.j label _ _
    (string_bytes c.loop-j.text) _ _ _ here
    c.size-j-end.ensures.size c.loop-j-test.true c.value.ensures.text (c.loop-j.invariant label here)
    c.gap_before.ensures.gap c.in_ok-push_str.ensures.bytes c.in_ok-push_value.ensures

pub returns : goal.returns
returns c = λ label here.
    values_pushed c.args.universe.now c.args.i c.size-j-end.result c.loop-j.j label _ _ here
    c.size-j-end.ensures.size c.loop-j-test.false (c.loop-j.invariant label here)
