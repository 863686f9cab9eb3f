-- A list that matches all ordinary alerts with a name.
use Rattle.am_idle.specs.Extent.{MatchesAll}
use Rattle.am_idle.specs.NamedAlerts.{IsNamedAlert}
use Rattle.am_idle.proofs.silences.extent_of_matching.Goals as goal

pub returns-in-Ok-Ok-true-clause-found : goal.returns-in-Ok-Ok-true-clause-found
returns-in-Ok-Ok-true-clause-found c = λ a made some.
    let all : MatchesAll (IsNamedAlert c.args.space.now) c.args.matchers.now =
    (rw c.in-Ok-Ok-true.field-0-is at c.in-Ok-Ok-true.ensures.all) c.in-Ok-Ok-true.field-0-0-test in
    (made, all)
