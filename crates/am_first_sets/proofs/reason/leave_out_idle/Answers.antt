use Rattle.am_first_sets.proofs.ReasonLemmas.{same_through}
use Rattle.am_first_sets.proofs.reason.leave_out_idle.Goals as goal

pub loop-i-preserved : goal.loop-i-preserved
loop-i-preserved c =
    let told = c.in_ok-replace_idle.ensures in
    record {
      same = same_through c.args.candidates.now c.loop-i.candidates c.replace_idle.new.candidates
          c.loop-i.invariant.same told.same;
      reason = told.reason;
      each = told.each;
    }
