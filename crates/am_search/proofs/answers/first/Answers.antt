use Rattle.std.proofs.Common.{refl}
use Rattle.am_search.proofs.Walks.{first_answer}
use Rattle.am_search.proofs.answers.first.Goals as goal

pub returns-clause-first : goal.returns-clause-first
returns-clause-first g c =
    let judge = c.args.judge.now in
    first_answer (g.J.Judge.sizes judge) (g.J.Judge.truth judge) _ _ _ c.next.result c.empty.ensures.no_position (c.from-answers.ensures.left refl) c.next.ensures.first
