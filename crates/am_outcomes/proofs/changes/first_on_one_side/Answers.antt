use Rattle.std.proofs.Common.{Some, None, append-nil, sym, ◌∙◌}
use Rattle.std.proofs.lemmas.List.{map_push}
use Rattle.am_config.specs.ConfigView.{config_view}
use Rattle.am_outcomes.specs.Changes.{without_groups}
use Rattle.am_outcomes.specs.OutcomesView.{founds_view, names_on}
use Rattle.am_outcomes.proofs.ChangeSteps.{found_more}
use Rattle.am_outcomes.proofs.changes.first_on_one_side.Goals as goal
use Rattle.am_outcomes.proofs.changes.first_on_one_side.Goals.{in-Some+in_ok-push, in_default}

pub loop-receiver-preserved : goal.loop-receiver-preserved
loop-receiver-preserved c =
    let names = names_on c.args.side in
    let others = names_on c.args.other in
    let receivers = (config_view c.args.side.config.now).receivers in
    elim c.match-first_with.branch [
      | in-Some+in_ok-push w ↦
          rw (w.found-is, w.in_ok-push.ensures.items, map_push)
          (found_more names others (without_groups c.args.changes.now) receivers
          c.loop-receiver.receiver c.receiver_name-name.result.now
          (founds_view c.loop-receiver.found.items) (Some w.in-Some.change.now.labels)
          c.receiver_name-name.ensures.name c.loop-receiver.invariant w.in-Some.ensures)
      | in_default w ↦
          rw w.found-is
          (sym (append-nil (founds_view c.loop-receiver.found.items))
          ∙ found_more names others (without_groups c.args.changes.now) receivers
          c.loop-receiver.receiver c.receiver_name-name.result.now
          (founds_view c.loop-receiver.found.items) None c.receiver_name-name.ensures.name
          c.loop-receiver.invariant (rw w.in_default.is at c.first_with.ensures))
    ]
