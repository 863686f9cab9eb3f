use Rattle.std.proofs.Common.{arith, not}
use Rattle.std.proofs.lemmas.Grind.{common_steps}
use Rattle.am_differences.specs.Options.{have_same_option, options_of_pairs}
use Rattle.am_differences.proofs.PartSteps.{positions_more}
use Rattle.am_differences.proofs.options.differing_options.Goals as goal
use Rattle.am_differences.proofs.options.differing_options.Goals.{then-not-have_same_option+in_ok-push}
use Rattle.am_differences.proofs.options.differing_options.Goals.{else-not-have_same_option}

pub loop-position-preserved : goal.loop-position-preserved
loop-position-preserved c =
    let more =
    positions_more (λ k. not (have_same_option (options_of_pairs c.args.pairs.now) k))
    c.loop-position.position c.loop-position-test.true in
    elim c.if-not-have_same_option.branch [
      | then-not-have_same_option+in_ok-push w ↦ grind (arith, common_steps, more)
      | else-not-have_same_option w ↦ grind (arith, common_steps, more)
    ]
