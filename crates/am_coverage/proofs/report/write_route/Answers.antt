use Rattle.std.proofs.Common.{◌++◌, ap, sym, codes}
use Rattle.am_universe.proofs.Writing.{◌⟩◌, writes_as}
use Rattle.am_coverage.specs.WrittenCoverage.{route_status}
use Rattle.am_coverage.proofs.report.write_route.Goals as goal

pub returns-in-Entered : goal.returns-in-Entered
returns-in-Entered g c =
    c.in_ok-write.ensures.written.ok
    ⟩ writes_as (ap (λ seen. route_status c.args.universe.now seen ++ codes "\n") (sym c.in-Entered.is))
    c.put_all.ensures.written

pub returns-in-NeverEntered : goal.returns-in-NeverEntered
returns-in-NeverEntered g c =
    c.in_ok-write.ensures.written.ok
    ⟩ writes_as (ap (λ seen. route_status c.args.universe.now seen ++ codes "\n") (sym c.in-NeverEntered.is))
    c.put_all-in-NeverEntered.ensures.written
