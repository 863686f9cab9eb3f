use Rattle.std.proofs.Common.{◌≡◌, ◌++◌, ◌∙◌, sym, ap, refl, arith, inr, length}
use Rattle.am_labels.specs.declared.op.TheConstants.Op.{ALL}
use Rattle.am_labels.specs.MatcherReading.{read_operator}
use Rattle.am_labels.proofs.OperatorLemmas.{first_here, first_behind}
use Rattle.am_labels.proofs.matcher_text.read_operator.Goals as goal

pub loop-op-preserved : goal.loop-op-preserved
loop-op-preserved c =
    first_behind ALL c.loop-op.op-index c.args.text.now c.text.result.now c.loop-op-test.true
    c.text.ensures.text c.in_default.ensures.cases
    ∙ c.loop-op.invariant

pub returns-in-Some : goal.returns-in-Some
unfolding read_operator
returns-in-Some c =
    let cut = c.in-Some.ensures.cases in
    sym c.loop-op.invariant
    ∙ first_here ALL c.loop-op.op-index c.args.text.now c.text.result.now c.loop-op-test.true
    c.text.ensures.text c.in-Some.rest.now
    (cut.1.1 ∙ ap (λ rest. c.text.result.now ++ rest) (sym cut.2))

pub returns : goal.returns
unfolding read_operator
returns c =
    let past : c.loop-op.op-index ≡ length ALL = omega arith in
    inr (refl, sym (rw past at c.loop-op.invariant))
