-- The first that is the largest, and whether it is many.
use Rattle.std.proofs.Common.{◌≡◌, ℕ, ◌++◌, ◌∷◌, [], length, take, get_or, true, false, subst, sym, arith}
use Rattle.std.proofs.lemmas.Bool.Decides.{nat_tests}
use Rattle.std.proofs.lemmas.Bool.{and_from}
use Rattle.std.proofs.lemmas.Grind.{common_steps}
use Rattle.std.proofs.lemmas.List.{take_more, take_all, length-take-le}
use Rattle.am_firing.specs.Wide.{is_many}
use Rattle.am_firing.proofs.Most.{IsMostSoFar, most_takes, most_keeps, widest_is, widest_none, widest_within}
use Rattle.am_firing.proofs.wide.widest.Goals as goal
use Rattle.am_firing.proofs.wide.widest.Goals.{then-count-most, else-count-most}
use Rattle.am_firing.proofs.wide.widest.Goals.{else-most-ge-FEWEST_INHIBITED-via-then-most-ge-FEWEST_INHIBITED+else-div_ceil-most}
use Rattle.am_firing.proofs.wide.widest.Goals.{else-most-ge-FEWEST_INHIBITED-via-else-most-ge-FEWEST_INHIBITED}

pub loop-i-preserved : goal.loop-i-preserved
loop-i-preserved c =
    let counts = c.args.counts.now in
    let i = c.loop-i.i in
    let x = get_or counts i 0 in
    let before = take i counts in
    let at : length before ≡ i = length-take-le i counts (omega arith) in
    rw (take_more counts i 0 c.loop-i-test.true) (elim c.if-count-most.branch [
      | then-count-most w ↦
          rw w.most-is (subst (λ (k : ℕ). IsMostSoFar (before ++ x ∷ []) k x) at
          (most_takes before c.loop-i.most.0 c.loop-i.most.1 x c.loop-i.invariant w.if-count-most.true))
      | else-count-most w ↦
          rw w.most-is (most_keeps before c.loop-i.most.0 c.loop-i.most.1 x c.loop-i.invariant w.if-count-most.false)
    ])

pub returns-then-div_ceil-most-clause-widest : goal.returns-then-div_ceil-most-clause-widest
returns-then-div_ceil-most-clause-widest c =
    let many : is_many c.args.counts.now c.loop-i.most.1 ≡ true = grind (arith, nat_tests, common_steps, and_from) in
    sym (widest_is c.args.counts.now c.loop-i.most.0 c.loop-i.most.1
    (rw (take_all c.loop-i.i c.args.counts.now (omega arith)) at c.loop-i.invariant) many)

pub returns-then-div_ceil-most-clause-within : goal.returns-then-div_ceil-most-clause-within
returns-then-div_ceil-most-clause-within c =
    widest_within c.args.counts.now c.loop-i.most.0 c.loop-i.most.1
    (rw (take_all c.loop-i.i c.args.counts.now (omega arith)) at c.loop-i.invariant) (omega arith)

pub returns-else-most-ge-FEWEST_INHIBITED-clause-widest : goal.returns-else-most-ge-FEWEST_INHIBITED-clause-widest
returns-else-most-ge-FEWEST_INHIBITED-clause-widest c =
    let few : is_many c.args.counts.now c.loop-i.most.1 ≡ false =
    elim c.else-most-ge-FEWEST_INHIBITED.branch [
      | else-most-ge-FEWEST_INHIBITED-via-then-most-ge-FEWEST_INHIBITED+else-div_ceil-most w ↦
          grind (arith, nat_tests, common_steps)
      | else-most-ge-FEWEST_INHIBITED-via-else-most-ge-FEWEST_INHIBITED w ↦
          grind (arith, nat_tests, common_steps)
    ] in
    sym (widest_none c.args.counts.now c.loop-i.most.0 c.loop-i.most.1
    (rw (take_all c.loop-i.i c.args.counts.now (omega arith)) at c.loop-i.invariant) few)
