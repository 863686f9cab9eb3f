use Rattle.std.proofs.Common.{ap, ◌∙◌}
use Rattle.am_universe.specs.LabelSet.{label_set_of}
use Rattle.am_first_sets.proofs.MeetingLemmas.{if_ok_more}
use Rattle.am_outcomes.specs.OutcomesView.{routes_view}
use Rattle.am_outcomes.specs.Routers.{router_config}
use Rattle.am_outcomes.proofs.HandlerReceivers.{receivers_found}
use Rattle.am_outcomes.proofs.handling.receivers_by.Goals as goal

pub returns : goal.returns
returns c =
    if_ok_more c.receivers_of_routes.result _ _
    (λ found is u whole over.
    receivers_found (label_set_of u c.args.choice.now) (router_config c.args.router.now)
    c.as_slice.result.now found.items
    (ap routes_view c.as_slice.ensures.value ∙ c.in_ok-routes.ensures u whole over) is)
    c.receivers_of_routes.ensures
