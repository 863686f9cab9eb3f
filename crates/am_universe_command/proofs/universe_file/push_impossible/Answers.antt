-- The text has the lists before the next one.
use Rattle.std.proofs.Common.{string_bytes}
use Rattle.am_universe_command.proofs.TextSteps.{one_list_pushed, lists_pushed}
use Rattle.am_universe_command.proofs.universe_file.push_impossible.Goals as goal

pub loop-i-preserved : goal.loop-i-preserved
loop-i-preserved c =
    one_list_pushed string_bytes c.args.impossible.now c.loop-i.i c.index-impossible-i.result
    (string_bytes c.push_str.new.self) (string_bytes c.loop-i.text) _ _ _ c.loop-i-test.true
    c.index-impossible-i.is c.loop-i.invariant c.gap_before.ensures.gap
    c.in_ok-push_str-2.ensures.bytes
    (rw c.as_str.ensures.value at c.in_ok-push_quoted.ensures)

pub returns : goal.returns
returns c =
    lists_pushed string_bytes c.args.impossible.now c.loop-i.i (string_bytes c.args.text.now)
    (string_bytes c.push_str.new.self) (string_bytes c.loop-i.text) _ c.if-is_empty.ensures
    c.loop-i-test.false c.in_ok-push_str.ensures.bytes c.loop-i.invariant
    c.in_ok-push_str-3.ensures.bytes
