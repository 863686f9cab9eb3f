use Rattle.std.proofs.Common.{ap, ◌∙◌, length, ◌++◌}
use Rattle.std.specs.List.{flat_map, enumerate_from}
use Rattle.am_config.specs.ConfigFile.{Configuration}
use Rattle.am_eval.specs.Inhibition.{inhibitors}
use Rattle.am_alerts.specs.AlertLists.{list_at, inhibitors_by}
use Rattle.am_alerts.proofs.AlertListLemmas.{all_lists}
use Rattle.am_alerts.proofs.alert_hiding.inhibitors_of_alerts.Goals as goal

pub returns : goal.returns
returns c =
    let rules = c.rules.ensures.rules ∙ ap (λ (config : Configuration). config.rules) c.config.ensures.config in
    let adds = rw c.deref_mut.ensures.value at c.in_ok-add_inhibitors.ensures.added in
    all_lists c.args.labels.now (inhibitors c.args.world.now) c.in_ok-found.found
    c.add_inhibitors.new.found c.len.result c.in_ok-found.ensures
    (c.len.ensures.count ∙ ap length c.alerts.ensures.alerts)
    (c.add_inhibitors.auto.found ∙ ap length c.deref_mut.ensures.value)
    (λ i s at. adds i s at
    ∙ (λ j. list_at c.in_ok-found.found.items i
    ++ flat_map (inhibitors_by (c.requires j) s) (enumerate_from 0 (rules j))))
