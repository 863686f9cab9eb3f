use Rattle.std.proofs.Common.{sym, true, false}
use Rattle.am_universe.proofs.UniverseLemmas.{any_name_fault-of_some}
use Rattle.am_universe.proofs.universe.Universe.any_name_fault.Goals as goal

pub returns-then-is_some : goal.returns-then-is_some
returns-then-is_some c =
    let found = c.position.ensures in
    sym (any_name_fault-of_some c.args.self.now c.args.name.now c.position.result true found.found found.none (cc) (cc))

pub returns : goal.returns
returns c =
    let found = c.position.ensures in
    sym (any_name_fault-of_some c.args.self.now c.args.name.now c.position.result false found.found found.none (cc) (cc))
