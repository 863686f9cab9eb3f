use Rattle.std.proofs.Common.{◌≡◌, ◌-◌, Bor, List, length, drop, sym, subst, arith}
use Rattle.std.proofs.lemmas.List.{drop_all}
use Rattle.am_config.specs.ConfigFile.{Configuration}
use Rattle.am_config.specs.ConfigView.{config_view}
use Rattle.am_config.specs.declared.config.Config.{Config}
use Rattle.am_outcomes.specs.Configurations.{matchers_of_each, silences_view}
use Rattle.am_outcomes.specs.OutcomesView.{tried_view}
use Rattle.am_outcomes.specs.Steps.{GoesThrough, GoesPast}
use Rattle.am_outcomes.proofs.StepLemmas.{through_more, next_from_behind}
use Rattle.am_outcomes.proofs.steps.steps_of.Goals as goal

pub loop-i-init : goal.loop-i-init
loop-i-init c =
    let configs = c.args.configs.now in
    let steps = c.in_ok-steps.steps.items in
    record {
      steps = c.in_ok-steps.ensures.steps;
      goes = subst (λ (cs : List (Bor Config)).
          GoesThrough c.args.universe.now (tried_view cs c.args.silences.now) steps (length steps))
          (sym (drop_all (length configs - 0) configs (omega arith)))
          c.in_ok-steps.ensures.goes;
    }

pub loop-i-preserved : goal.loop-i-preserved
loop-i-preserved c =
    let l = c.loop-i in
    let u = c.args.universe.now in
    let configs = c.args.configs.now in
    let silences = c.args.silences.now in
    let config = c.index-configs-configs.result in
    let steps = l.steps.items in
    let new = c.push_route.new.steps.items in
    let pushed = c.in_ok-push_route.ensures in
    let next : c.len-next.result ≡ length steps = omega (arith, c.len-next.ensures) in
    let past : GoesPast u (config_view config.now).root steps (length steps) (length steps) new
    (length new) =
    rw (← c.root-root.ensures.root, ← pushed.first, ← next) pushed.goes in
    record {
      steps = pushed.steps;
      goes = subst (λ (cs : List Configuration).
          GoesThrough u
          (record { configurations = cs; lists = matchers_of_each (silences_view silences) }) new
          (length new))
          (sym (next_from_behind (λ c. config_view c.now) configs l.i config c.loop-i-test.true
          c.index-configs-configs.is))
          (through_more u steps new (length steps) (length new) (config_view config.now)
          (tried_view (drop (length configs - l.i) configs) silences) l.invariant.goes past);
    }
