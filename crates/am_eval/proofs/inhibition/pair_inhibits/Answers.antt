-- A pair of a world has a rule of its configuration and an alert that fires.
use Rattle.std.proofs.Common.{◌≡◌, List, ap, ◌∙◌, arith}
use Rattle.std.proofs.lemmas.Result.{IfOk-weaker}
use Rattle.am_config.specs.ConfigFile.{Configuration, Rule}
use Rattle.am_eval.proofs.Inhibitors.{rule_within, alert_within, read_pair}
use Rattle.am_eval.proofs.inhibition.pair_inhibits.Goals as goal

the_rules : {config world : Configuration} {rules : List Rule} → rules ≡ config.rules
    → config ≡ world → rules ≡ world.rules
the_rules e f = e ∙ ap (λ (c : Configuration). c.rules) f

pub bounds-rules-pair : goal.bounds-rules-pair
bounds-rules-pair c =
    rule_within c.args.world.now c.rules.result.now c.args.pair c.requires
    (the_rules c.rules.ensures.rules c.config.ensures.config)

pub offset_bounds-rules-pair : goal.offset_bounds-rules-pair
offset_bounds-rules-pair c =
    let inside = rule_within c.args.world.now c.rules.result.now c.args.pair c.requires
    (the_rules c.rules.ensures.rules c.config.ensures.config) in
    omega (arith, inside, c.rules.type_inv.1)

pub get-requires : goal.get-requires
get-requires c =
    record {
      alert = alert_within c.args.world.now c.alerts.result.now c.args.pair c.requires
          c.alerts.ensures.alerts;
    }

pub inhibits-requires : goal.inhibits-requires
inhibits-requires c =
    let read = read_pair c.args.world.now c.rules.result.now c.alerts.result.now c.args.pair
    c.index-rules-pair.result c.get.result.now c.requires
    (the_rules c.rules.ensures.rules c.config.ensures.config) c.alerts.ensures.alerts
    c.index-rules-pair.is c.get.ensures.alert in
    record { source = read.0; both = read.1 }

pub returns : goal.returns
returns c =
    let read = read_pair c.args.world.now c.rules.result.now c.alerts.result.now c.args.pair
    c.index-rules-pair.result c.get.result.now c.requires
    (the_rules c.rules.ensures.rules c.config.ensures.config) c.alerts.ensures.alerts
    c.index-rules-pair.is c.get.ensures.alert in
    IfOk-weaker c.inhibits.result _ _ (λ muted e. e ∙ read.2 c.args.set.now) c.inhibits.ensures
