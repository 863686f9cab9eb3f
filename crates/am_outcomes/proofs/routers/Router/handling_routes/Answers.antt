use Rattle.std.proofs.Common.{List, ◌++◌, Bor, ap, sym, ◌∙◌, subst}
use Rattle.am_universe.specs.LabelSet.{label_set_of}
use Rattle.am_config.specs.ConfigFile.{RouteTree}
use Rattle.am_config.specs.RouteView.{route_view}
use Rattle.am_config.specs.declared.route.Route.{Route}
use Rattle.am_first_sets.specs.RouteCubes.{AreCubesOf}
use Rattle.am_outcomes.specs.Handling.{handlers_at}
use Rattle.am_outcomes.specs.OutcomesView.{routes_view}
use Rattle.am_outcomes.specs.Routers.{router_config}
use Rattle.am_outcomes.proofs.Handlers.{handlers_found}
use Rattle.am_outcomes.proofs.routers.Router.handling_routes.Goals as goal

pub returns : goal.returns
returns c = λ u whole over.
    let self = c.args.self.now in
    let choice = c.args.choice.now in
    let s = label_set_of u choice in
    let root = c.root.ensures.root in
    c.in_ok-add_handlers.ensures.added u whole
    (subst (λ (t : RouteTree). AreCubesOf u choice t self.cubes) (sym root) (over choice whole))
    ∙ ap (λ (xs : List (Bor Route)). routes_view xs ++ handlers_at s (route_view c.root.result.now))
    c.new-found.ensures.items
    ∙ ap (handlers_at s) root
    ∙ sym (handlers_found s (router_config self).root)
