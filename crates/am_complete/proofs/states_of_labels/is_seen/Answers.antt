use Rattle.std.proofs.Common.{sym, ◌∙◌, arith}
use Rattle.std.proofs.lemmas.Grind.{common_steps}
use Rattle.am_labels.proofs.Passing.{in_any}
use Rattle.am_universe.proofs.Members.{in_at}
use Rattle.am_complete.specs.FoundState.{has_label}
use Rattle.am_complete.proofs.LabelStates.{none_more}
use Rattle.am_complete.proofs.states_of_labels.is_seen.Goals as goal

pub returns-then-has_label : goal.returns-then-has_label
returns-then-has_label c =
    let alerts = c.args.alerts.now in
    sym (in_any (has_label c.args.name.now) alerts c.get.result.now
    (in_at alerts c.loop-i.i c.get.result.now c.get.ensures.alert)
    (sym c.has_label.ensures ∙ c.if-has_label.true))

pub loop-i-preserved : goal.loop-i-preserved
loop-i-preserved c = grind (arith, common_steps, none_more)
