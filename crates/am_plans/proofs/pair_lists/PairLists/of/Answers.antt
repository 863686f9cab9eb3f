use Rattle.std.proofs.Common.{◌≡◌, List, ap, ◌∙◌, subst}
use Rattle.am_config.specs.ConfigFile.{Configuration, Rule}
use Rattle.am_plans.specs.PairsByLists.{AreSources}
use Rattle.am_plans.proofs.PairSteps.{pairs_truth}
use Rattle.am_plans.proofs.pair_lists.PairLists.of.Goals as goal

pub returns : goal.returns
returns c =
    let u = c.args.universe.now in
    let world = c.args.world.now in
    let sources = c.in_ok-sources.sources in
    let of_world : c.rules-rules.result.now ≡ world.config.rules =
    c.rules-rules.ensures.rules
    ∙ ap (λ (config : Configuration). config.rules) c.config.ensures.config in
    record {
      inhibited = λ prefix m knows.
          let are = subst (λ (rules : List Rule). AreSources u prefix sources.items rules)
          of_world (c.in_ok-sources.ensures.sources prefix knows) in
          let parts = c.in_ok-lists.ensures in
          pairs_truth u world prefix m
          (record { lists = c.in_ok-of.field-0; sides = c.in_ok-lists.sides; sources = sources })
          c.in_ok-pairs.pairs.items
          (c.in_ok-of.ensures.cubes ∙ parts.lists) parts.sides (c.in_ok-pairs.ensures.pairs prefix m sources.items knows are);
    }
