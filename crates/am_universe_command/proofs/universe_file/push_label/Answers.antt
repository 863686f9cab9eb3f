-- The pieces of a label, one after another.
use Rattle.am_universe_command.proofs.TextSteps.{label_pushed}
use Rattle.am_universe_command.proofs.universe_file.push_label.Goals as goal

pub returns : goal.returns
returns c = λ label here.
    label_pushed c.args.universe.now c.args.i label _ _ _ _ _ _ _ here c.name.ensures.name
    c.in_ok-push_str.ensures.bytes c.in_ok-push_quoted.ensures c.in_ok-push_str-2.ensures.bytes
    (c.in_ok-push_values.ensures label here) c.in_ok-push_str-3.ensures.bytes
