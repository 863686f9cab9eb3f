-- The matchers of both configurations, and then those of the impossible lists.
use Rattle.std.proofs.Common.{◌++◌, ap, ◌∙◌, subst, sym, append_assoc, IfOk}
use Rattle.std.proofs.lemmas.Result.{IfOk-weaker}
use Rattle.am_config.specs.ConfigView.{config_view}
use Rattle.am_complete.specs.AskedLabel.{IsAskedOf}
use Rattle.am_complete.specs.Complete.{impossible_matchers}
use Rattle.am_asked.specs.Asked.{route_matchers}
use Rattle.am_outcomes.specs.declared.configs.Configs.{Configs}
use Rattle.am_reports.specs.RoutingLabels.{routing_matchers}
use Rattle.am_outcomes.specs.Configurations.{configurations_of}
use Rattle.am_reports.proofs.configs.labels_asked.Goals as goal

pub returns-in-Pair-clause-asked : goal.returns-in-Pair-clause-asked
returns-in-Pair-clause-asked c =
    let s = c.args.space.now in
    let old = route_matchers (config_view c.in-Pair.old.now).root in
    let new = route_matchers (config_view c.in-Pair.new.now).root in
    let same = ap (λ lists. old ++ (new ++ impossible_matchers lists))
    c.impossible.ensures.lists
    ∙ sym (append_assoc old new (impossible_matchers s.impossible)) in
    subst (λ (k : Configs). IfOk c.asked_by_both.result (λ labels.
    IsAskedOf labels.items (routing_matchers s (configurations_of k)))) (sym c.in-Pair.is)
    (IfOk-weaker c.asked_by_both.result _ _
    (λ labels is. subst (IsAskedOf labels.items) same is) c.asked_by_both.ensures.asked)
