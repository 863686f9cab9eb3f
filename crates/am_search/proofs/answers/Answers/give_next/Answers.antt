use Rattle.std.proofs.Common.{arith}
use Rattle.am_search.proofs.NextPrefix.{beside_is}
use Rattle.am_search.proofs.WalkSteps.{goes_on_giving, given_last, given_end}
use Rattle.am_search.proofs.answers.Answers.give_next.Goals as goal

pub go_beside-requires : goal.go_beside-requires
go_beside-requires g c = (c.args.self.now.walk.giving c.args.depth c.requires).whole.0

pub complete-requires : goal.complete-requires
complete-requires g c =
    let a = c.args.self.now in
    (beside_is (g.J.Judge.sizes a.judge.now) a.current c.go_beside.new.prefix (a.walk.giving c.args.depth c.requires).whole.0 c.if-not-go_beside.ensures).admitted

pub invariant_of-self-clause-walk : goal.invariant_of-self-clause-walk
invariant_of-self-clause-walk g c =
    let a = c.args.self.now in
    given_end (g.met.J.Judge.laws a.judge.now) a.walk c.requires c.if-not-go_beside.ensures c.followed_by-self.ensures.joined

pub invariant_of-self-then-len-depth-clause-walk : goal.invariant_of-self-then-len-depth-clause-walk
invariant_of-self-then-len-depth-clause-walk g c =
    let a = c.args.self.now in
    goes_on_giving (g.met.J.Judge.laws a.judge.now) a.walk c.requires c.if-not-go_beside.ensures (omega arith) c.complete.ensures c.followed_by-self.ensures.joined

pub invariant_of-self-else-len-depth-clause-walk : goal.invariant_of-self-else-len-depth-clause-walk
invariant_of-self-else-len-depth-clause-walk g c =
    let a = c.args.self.now in
    given_last (g.met.J.Judge.laws a.judge.now) a.walk c.requires c.if-not-go_beside.ensures (omega arith) c.followed_by-self.ensures.joined
