use Rattle.std.proofs.Common.{◌==◌, rules, tests}
use Rattle.std.proofs.lemmas.Iterator.{YieldsList-from_slice}
use Rattle.std.proofs.lemmas.Iterator.Search.{any_from_yields_List}
use Rattle.am_route_alerts.proofs.found.is_asked.Goals as goal

pub returns-in-Some : goal.returns-in-Some
returns-in-Some c =
    rw c.in-Some.is (any_from_yields_List (λ other. other == c.args.receiver) _ _ c.any.result
    c.any.ensures.ran (YieldsList-from_slice c.in-Some.receivers.now cc)
    (λ x b q k. search (rules, tests)))
