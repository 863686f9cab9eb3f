use Rattle.std.proofs.Common.{sym, ap, ◌∙◌}
use Rattle.am_plans.specs.RoutesByWays.{reaches_in}
use Rattle.am_plans.proofs.world_lists.WorldLists.see.Goals as goal

pub returns-in-Some : goal.returns-in-Some
returns-in-Some c = λ m reach routes.
    c.see.ensures m reach routes
    ∙ ap (λ lists. reaches_in c.args.prefix.now lists m reach routes) (sym c.in-Some.is)
