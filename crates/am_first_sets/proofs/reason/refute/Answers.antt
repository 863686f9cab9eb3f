-- Without the names that are taken off, the cubes that were used are still asked about.
use Rattle.std.proofs.Common.{arith}
use Rattle.std.proofs.lemmas.Bool.{both_ways, false_from_ne_true}
use Rattle.am_first_sets.specs.Literals.{meets, wanted_of, unwanted_of}
use Rattle.am_first_sets.specs.Meeting.{meets_cubes}
use Rattle.am_first_sets.specs.Reason.{kept}
use Rattle.am_first_sets.specs.Solving.{marked}
use Rattle.am_first_sets.proofs.ReasonLemmas.{fewer_itself, kept_fewer, kept_first, kept_meets}
use Rattle.am_first_sets.proofs.reason.refute.Goals as goal

pub returns-in-Some : goal.returns-in-Some
returns-in-Some c =
    let ks = c.args.candidates.now in
    let from = c.args.from in
    let used = c.in-Some.used.items in
    let none = rw c.in-Some.is at c.in_ok-used.ensures.refuted in
    rw (c.keep_used.ensures, c.as_slice.ensures.value) (record {
      fewer = kept_fewer from used 0 0 ks;
      first = λ named j k at lt.
          kept_first from used 0 0 ks (λ i l there low. named i l there (omega (arith, low))) j k at
          (omega (arith, lt));
      enough = λ yes d is.
          false_from_ne_true (meets d (kept from used 0 0 ks)) (λ e.
          both_ways (meets_cubes (wanted_of ks) (marked used (unwanted_of ks)) d) (none d is)
          (kept_meets d from used ks e));
      met = λ no. absurd (cc);
    })

pub returns-in-None-clause-fewer : goal.returns-in-None-clause-fewer
returns-in-None-clause-fewer c = fewer_itself c.args.candidates.now

pub returns-in_err-used-clause-fewer : goal.returns-in_err-used-clause-fewer
returns-in_err-used-clause-fewer c = fewer_itself c.args.candidates.now
