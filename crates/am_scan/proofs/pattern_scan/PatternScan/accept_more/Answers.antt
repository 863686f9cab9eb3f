-- If nothing has changed, the list of accepted states is closed.
use Rattle.std.proofs.Common.{length, ap, ◌∙◌, arith}
use Rattle.am_scan.specs.Closure.{contains}
use Rattle.am_scan.proofs.ClosureLemmas.{IsClosed-rounds}
use Rattle.am_scan.proofs.pattern_scan.PatternScan.accept_more.Goals as goal

pub returns-clause-closed : goal.returns-clause-closed
returns-clause-closed c = λ same.
    let scan = c.args.self.now in
    let all = ap length c.deref-id-items.ensures.value in
    IsClosed-rounds scan.nfa c.args.state.now.first c.args.before (contains c.args.state.now.reads.items) c.loop-id.accepted scan.idle.items
    (c.loop-id.auto.accepted ∙ c.requires.len) c.loop-id.invariant.reads scan.all_idle
    (λ k inside. c.loop-id.invariant.same same k (omega arith))
