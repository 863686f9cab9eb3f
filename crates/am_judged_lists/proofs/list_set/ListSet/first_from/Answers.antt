use Rattle.am_judged_lists.proofs.SetLemmas.{none_from, first}
use Rattle.am_judged_lists.proofs.list_set.ListSet.first_from.Goals as goal

pub returns-then-bits-eq0-clause-none : goal.returns-then-bits-eq0-clause-none
returns-then-bits-eq0-clause-none c = λ k low high. none_from c.args.self.bits c.args.from k c.if-bits-eq0.true c.requires low high

pub returns-clause-some : goal.returns-clause-some
returns-clause-some c =
    let f = first c.args.self.bits c.args.from c.requires c.if-bits-eq0.false in
    (f.from, f.within)

pub returns-clause-found : goal.returns-clause-found
returns-clause-found c =
    (first c.args.self.bits c.args.from c.requires c.if-bits-eq0.false).found

pub returns-clause-before : goal.returns-clause-before
returns-clause-before c =
    (first c.args.self.bits c.args.from c.requires c.if-bits-eq0.false).before
