use Rattle.std.proofs.Common.{subst}
use Rattle.am_config.specs.ConfigFile.{RouteTree}
use Rattle.am_first_sets.specs.RouteCubes.{AreCubesOf}
use Rattle.am_outcomes.proofs.routers.Router.of.Goals as goal

pub returns-clause-over : goal.returns-clause-over
returns-clause-over c = λ choice whole.
    subst (λ (t : RouteTree). AreCubesOf c.args.universe.now choice t c.in_ok-of.field-0)
    c.root.ensures.root (c.in_ok-of.ensures.cubes choice whole.0)
