use Rattle.am_first_sets.proofs.ReasonLemmas.{fewer_through, fewer_same, enough_after}
use Rattle.am_first_sets.proofs.reason.leave_out.Goals as goal

pub loop-labels-init : goal.loop-labels-init
loop-labels-init c = record {
  fewer = c.refute.ensures.fewer;
  first = c.refute.ensures.first c.requires.first;
  enough = enough_after _ _ _ c.in_ok-refute.field-0 c.requires.enough
      c.in_ok-refute.ensures.enough c.in_ok-refute.ensures.met;
}

pub loop-labels-preserved : goal.loop-labels-preserved
loop-labels-preserved c =
    let told = c.in_ok-leave_out_those.ensures in
    record {
      fewer = fewer_through c.args.candidates.now c.loop-labels.candidates
          c.leave_out_those.new.candidates c.loop-labels.invariant.fewer told.fewer;
      first = told.first;
      enough = told.enough;
    }

pub returns-in_err-refute-clause-same : goal.returns-in_err-refute-clause-same
returns-in_err-refute-clause-same c =
    fewer_same c.args.candidates.now c.refute.new.candidates c.refute.ensures.fewer

pub returns-in_err-leave_out_those-clause-same : goal.returns-in_err-leave_out_those-clause-same
returns-in_err-leave_out_those-clause-same c =
    fewer_same c.args.candidates.now c.leave_out_those.new.candidates
    (fewer_through c.args.candidates.now c.loop-labels.candidates c.leave_out_those.new.candidates
    c.loop-labels.invariant.fewer c.leave_out_those.ensures.fewer)

pub returns-clause-same : goal.returns-clause-same
returns-clause-same c =
    fewer_same c.args.candidates.now c.leave_out_those-2.new.candidates
    (fewer_through c.args.candidates.now c.loop-labels.candidates
    c.leave_out_those-2.new.candidates c.loop-labels.invariant.fewer
    c.leave_out_those-2.ensures.fewer)
