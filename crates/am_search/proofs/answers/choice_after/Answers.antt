use Rattle.std.proofs.Common.{ap, sym, ◌∙◌}
use Rattle.std.specs.Prelude.{option_map}
use Rattle.am_search.proofs.Odometer.{filled, positive, first_completion_is}
use Rattle.am_search.proofs.NextPrefix.{beside_is}
use Rattle.am_search.proofs.Walks.{next_choice_is}
use Rattle.am_search.proofs.answers.choice_after.Goals as goal

pub complete-requires : goal.complete-requires
complete-requires g c =
    (beside_is (g.J.Judge.sizes c.args.judge.now) c.args.choice.now c.go_beside.new.prefix c.requires.0 c.if-go_beside.ensures).admitted

pub returns-then-go_beside : goal.returns-then-go_beside
returns-then-go_beside g c =
    let ns = g.J.Judge.sizes c.args.judge.now in
    let some = positive ns (g.met.J.Judge.laws c.args.judge.now).limits.values in
    let admitted = (beside_is ns c.args.choice.now c.go_beside.new.prefix c.requires.0 c.if-go_beside.ensures).admitted in
    sym (next_choice_is ns c.args.choice.now some c.requires ∙ ap (option_map (filled ns)) c.if-go_beside.ensures
    ∙ sym (first_completion_is ns c.go_beside.new.prefix some admitted) ∙ c.complete.ensures)
