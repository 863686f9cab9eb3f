-- A pair of a world has a rule of its configuration and an alert that fires.
use Rattle.std.proofs.Common.{◌≡◌, List, [], ◌++◌, Some, drop, length, refl, sym, ap, ◌∙◌, arith}
use Rattle.std.specs.Prelude.{slice_get}
use Rattle.std.proofs.lemmas.List.{append-nil, drop_all}
use Rattle.std.proofs.lemmas.Option.{slice_get_read}
use Rattle.am_config.specs.ConfigFile.{Configuration, Rule}
use Rattle.am_eval.proofs.Inhibitors.{rule_within, alert_within}
use Rattle.am_complete.specs.declared.origin.Origin.TheVariants as origin_is
use Rattle.am_asked.specs.Asked.{equal_to_alert}
use Rattle.am_asked.specs.Placed.{placed_by_pair, placed_by, placed_at, is_named}
use Rattle.std.specs.List.{filter}
use Rattle.am_asked.proofs.EqualMatchers.{of_names}
use Rattle.am_asked.proofs.equal_matchers.add_equal_matchers.Goals as goal

the_rules : {config world : Configuration} {rules : List Rule} → rules ≡ config.rules
    → config ≡ world → rules ≡ world.rules
the_rules e f = e ∙ ap (λ (c : Configuration). c.rules) f

pub get-alert-requires : goal.get-alert-requires
get-alert-requires c =
    record {
      alert = alert_within c.args.world.now c.alerts.result.now c.args.pair c.requires
          c.alerts.ensures.alerts;
    }

pub bounds-rules-pair : goal.bounds-rules-pair
bounds-rules-pair c =
    rule_within c.args.world.now c.rules.result.now c.args.pair c.requires
    (the_rules c.rules.ensures.rules c.config.ensures.config)

pub offset_bounds-rules-pair : goal.offset_bounds-rules-pair
offset_bounds-rules-pair c =
    let inside = rule_within c.args.world.now c.rules.result.now c.args.pair c.requires
    (the_rules c.rules.ensures.rules c.config.ensures.config) in
    omega (arith, inside, c.rules.type_inv.1)

pub returns : goal.returns
returns c =
    let w = c.args.world.now in
    let pair = c.args.pair in
    let rule = c.index-rules-pair.result in
    let alert = c.get-alert.result.now in
    let names = c.equal-name-items.result.now in
    let the_same = the_rules c.rules.ensures.rules c.config.ensures.config in
    let inside = rule_within w c.rules.result.now pair c.requires the_same in
    let rule_is : slice_get w.config.rules pair.rule ≡ Some rule =
    ap (λ rules. slice_get rules pair.rule) (sym the_same)
    ∙ slice_get_read c.rules.result.now (length c.rules.result.now) pair.rule rule refl inside
    c.index-rules-pair.is in
    let alert_is : slice_get w.alerts pair.alert ≡ Some alert =
    ap (λ alerts. slice_get alerts pair.alert) (sym c.alerts.ensures.alerts)
    ∙ c.get-alert.ensures.alert in
    let all : of_names pair.rule alert names ≡ placed_by_pair w pair =
    ap (λ ns. placed_at (origin_is.Rule pair.rule) (filter is_named (equal_to_alert ns alert)))
    c.equal-name-items.ensures.equal
    ∙ (λ i. placed_by pair.rule (sym rule_is i) (sym alert_is i)) in
    let none : drop c.loop-name.name-index names ≡ [] =
    drop_all c.loop-name.name-index names c.loop-name-test.false in
    sym (append-nil c.loop-name.made.items)
    ∙ ap (λ ns. c.loop-name.made.items ++ of_names pair.rule alert ns) (sym none)
    ∙ c.loop-name.invariant ∙ ap (λ xs. c.args.made.now.items ++ xs) all
