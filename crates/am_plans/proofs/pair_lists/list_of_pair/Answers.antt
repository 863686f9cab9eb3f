-- Each pair of a world is a rule of its configuration and an alert that fires.
use Rattle.std.proofs.Common.{◌≡◌, List, ◌++◌, Some, map, refl, sym, ap, ◌∙◌, arith}
use Rattle.std.specs.Prelude.{slice_get}
use Rattle.am_config.specs.ConfigFile.{Configuration, Rule}
use Rattle.am_eval.specs.Conditions.{same_value}
use Rattle.am_eval.proofs.Inhibitors.{rule_within, alert_within, read_pair}
use Rattle.am_plans.proofs.PairSteps.{rule_at, targets_within, rows_of_pair, pair_truth}
use Rattle.am_plans.proofs.pair_lists.list_of_pair.Goals as goal

the_rules : {config world : Configuration} {rules : List Rule} → rules ≡ config.rules
    → config ≡ world → rules ≡ world.rules
the_rules e f = e ∙ ap (λ (c : Configuration). c.rules) f

pub bounds-rules-pair : goal.bounds-rules-pair
bounds-rules-pair c =
    rule_within c.args.world.now c.rules.result.now c.args.pair c.requires.pair
    (the_rules c.rules.ensures.rules c.config.ensures.config)

pub offset_bounds-rules-pair : goal.offset_bounds-rules-pair
offset_bounds-rules-pair c =
    let inside = rule_within c.args.world.now c.rules.result.now c.args.pair c.requires.pair
    (the_rules c.rules.ensures.rules c.config.ensures.config) in
    omega (arith, inside, c.rules.type_inv.1)

pub get-alert-requires : goal.get-alert-requires
get-alert-requires c =
    record {
      alert = alert_within c.args.world.now c.alerts.result.now c.args.pair c.requires.pair
          c.alerts.ensures.alerts;
    }

pub bounds-targets-pair : goal.bounds-targets-pair
bounds-targets-pair c =
    let world = c.args.world.now in
    targets_within c.args.universe.now c.args.targets.now world.config.rules c.args.pair.rule
    c.requires.targets (rule_within world world.config.rules c.args.pair c.requires.pair refl)

pub offset_bounds-targets-pair : goal.offset_bounds-targets-pair
offset_bounds-targets-pair c =
    let inside = rule_within c.args.world.now c.rules.result.now c.args.pair c.requires.pair
    (the_rules c.rules.ensures.rules c.config.ensures.config) in
    omega (arith, inside, c.rules.type_inv.1)

pub of_rows-requires : goal.of_rows-requires
of_rows-requires c =
    let rule = c.index-rules-pair.result in
    let at_rule = rule_at c.args.world.now c.rules.result.now c.args.pair rule c.requires.pair
    (the_rules c.rules.ensures.rules c.config.ensures.config) c.index-rules-pair.is in
    record {
      rows = (
        rule.target ++ map (same_value c.get-alert.result.now) rule.equal,
        rows_of_pair _ _ _ _ _ rule _ _ _ _ c.requires.targets c.index-targets-pair.is at_rule
            c.as_slice.ensures.value (c.as_slice-2.ensures.value ∙ c.in_ok-values.ensures.rows)
            c.equal.ensures.equal,
      );
    }

pub returns : goal.returns
returns c =
    let world = c.args.world.now in
    let pair = c.args.pair in
    let rule = c.index-rules-pair.result in
    let a = c.get-alert.result.now in
    let of_world = the_rules c.rules.ensures.rules c.config.ensures.config in
    let at_rule = rule_at world c.rules.result.now pair rule c.requires.pair of_world
    c.index-rules-pair.is in
    let at_alert : slice_get world.alerts pair.alert ≡ Some a =
    ap (λ xs. slice_get xs pair.alert) (sym c.alerts.ensures.alerts) ∙ c.get-alert.ensures.alert in
    let rows = rows_of_pair _ _ _ _ _ rule a _ _ _ c.requires.targets c.index-targets-pair.is at_rule
    c.as_slice.ensures.value (c.as_slice-2.ensures.value ∙ c.in_ok-values.ensures.rows)
    c.equal.ensures.equal in
    let read = read_pair world c.rules.result.now c.alerts.result.now pair rule a c.requires.pair
    of_world c.alerts.ensures.alerts c.index-rules-pair.is c.get-alert.ensures.alert in
    record {
      pair = λ prefix m sources knows are.
          pair_truth c.args.universe.now world prefix m sources c.in_ok-list.list
          pair rule a are at_rule at_alert read.1
          (c.in_ok-list.ensures.exact (rule.target ++ map (same_value a) rule.equal) rows prefix knows);
    }
