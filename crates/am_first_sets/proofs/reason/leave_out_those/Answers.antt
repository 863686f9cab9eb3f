use Rattle.std.proofs.Common.{arith}
use Rattle.am_first_sets.specs.PossibleChoices.{IsPossible}
use Rattle.am_first_sets.proofs.ReasonLemmas.{fewer_itself, fewer_through, needed_more}
use Rattle.am_first_sets.proofs.reason.leave_out_those.Goals as goal

pub loop-i-init : goal.loop-i-init
loop-i-init c = record {
  fewer = fewer_itself c.args.candidates.now;
  first = c.requires.first;
  enough = c.requires.enough;
  needed = λ all i k at low lt. absurd (omega (arith, low, lt));
}

pub loop-i-preserved : goal.loop-i-preserved
loop-i-preserved c =
    let before = c.loop-i.candidates in
    let after = c.leave_out_at.new.candidates in
    let told = c.in_ok-leave_out_at.ensures in
    let so = c.loop-i.invariant in
    record {
      fewer = fewer_through c.args.candidates.now before after so.fewer told.fewer;
      first = told.first;
      enough = told.enough;
      needed = λ all.
          needed_more (IsPossible c.args.possible.now) c.args.from c.loop-i.i before after told.fewer
          (told.needed all) (so.needed all);
    }

pub returns-in_err-leave_out_at-clause-fewer : goal.returns-in_err-leave_out_at-clause-fewer
returns-in_err-leave_out_at-clause-fewer c =
    fewer_through c.args.candidates.now c.loop-i.candidates c.leave_out_at.new.candidates
    c.loop-i.invariant.fewer c.leave_out_at.ensures.fewer
