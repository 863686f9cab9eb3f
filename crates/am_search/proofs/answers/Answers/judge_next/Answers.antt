use Rattle.std.proofs.Common.{sym, ◌∙◌, arith}
use Rattle.am_search.proofs.WalkSteps.{judged_admits, open_room, along_longer, opened, confirmed, denied, denied_last}
use Rattle.am_search.proofs.answers.Answers.judge_next.Goals as goal

pub judge-verdict-requires : goal.judge-verdict-requires
judge-verdict-requires g c = judged_admits (g.met.J.Judge.laws c.args.self.now.judge.now) c.args.self.now.walk c.requires.stage

pub position_along-position-requires : goal.position_along-position-requires
position_along-position-requires g c =
    let a = c.args.self.now in
    along_longer (g.met.J.Judge.laws a.judge.now) a.walk c.requires.stage (sym c.judge-verdict.ensures.verdict ∙ c.in-Open.is) c.len.ensures.len

pub push-requires : goal.push-requires
push-requires g c =
    let a = c.args.self.now in
    let law = g.met.J.Judge.laws a.judge.now in
    omega (arith, open_room law a.walk c.requires.stage (sym c.judge-verdict.ensures.verdict ∙ c.in-Open.is), law.limits.labels)

pub invariant_of-self-clause-walk : goal.invariant_of-self-clause-walk
invariant_of-self-clause-walk g c =
    let a = c.args.self.now in
    opened (g.met.J.Judge.laws a.judge.now) a.walk c.requires.stage (sym c.judge-verdict.ensures.verdict ∙ c.in-Open.is)
    c.len.ensures.len c.position_along-position.ensures c.push.ensures.added c.followed_by-self.ensures.joined

pub complete_along-requires : goal.complete_along-requires
complete_along-requires g c = judged_admits (g.met.J.Judge.laws c.args.self.now.judge.now) c.args.self.now.walk c.requires.stage

pub invariant_of-self-in-Yes-clause-walk : goal.invariant_of-self-in-Yes-clause-walk
invariant_of-self-in-Yes-clause-walk g c =
    let a = c.args.self.now in
    confirmed (g.met.J.Judge.laws a.judge.now) a.walk c.requires.stage (sym c.judge-verdict.ensures.verdict ∙ c.in-Yes.is)
    c.len-in-Yes.ensures.len c.complete_along.ensures c.followed_by-self.ensures.joined

pub go_beside-requires : goal.go_beside-requires
go_beside-requires g c = judged_admits (g.met.J.Judge.laws c.args.self.now.judge.now) c.args.self.now.walk c.requires.stage

pub invariant_of-self-then-not-go_beside-clause-walk : goal.invariant_of-self-then-not-go_beside-clause-walk
invariant_of-self-then-not-go_beside-clause-walk g c =
    let a = c.args.self.now in
    denied_last (g.met.J.Judge.laws a.judge.now) a.walk c.requires.stage (sym c.judge-verdict.ensures.verdict ∙ c.in-No.is) c.if-not-go_beside.ensures c.followed_by-self.ensures.joined

pub invariant_of-self-else-not-go_beside-clause-walk : goal.invariant_of-self-else-not-go_beside-clause-walk
invariant_of-self-else-not-go_beside-clause-walk g c =
    let a = c.args.self.now in
    denied (g.met.J.Judge.laws a.judge.now) a.walk c.requires.stage (sym c.judge-verdict.ensures.verdict ∙ c.in-No.is) c.if-not-go_beside.ensures c.followed_by-self.ensures.joined
