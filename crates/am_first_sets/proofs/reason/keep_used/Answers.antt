-- One literal more: it is asked of, or not.
use Rattle.std.proofs.Common.{◌≡◌, ◌+◌, ◌++◌, ◌||◌, nat_lt, get_or, length, slice_get, Some, Bool, true, false, suc, List, refl, sym, ap, ◌∙◌, subst, add-one, take, drop, arith}
use Rattle.std.proofs.lemmas.Option.{slice_get-get_or}
use Rattle.std.proofs.lemmas.Bool.{lt-ltb, le-ltb}
use Rattle.am_first_sets.specs.declared.candidate.Candidate.{Candidate}
use Rattle.am_first_sets.specs.Reason.{kept, renamed}
use Rattle.am_first_sets.proofs.ReasonLemmas.{kept_asked, kept_other, renamed_long}
use Rattle.am_first_sets.proofs.reason.keep_used.Goals.{then-asks_for_no_match, else-asks_for_no_match, then-i-from, else-i-from}
use Rattle.am_first_sets.proofs.reason.keep_used.Goals as goal

early : (a b : Bool) → a ≡ true → a ≡ (a || b)
early true b e = refl
early false b e = cc

late : (a b : Bool) → a ≡ false → b ≡ (a || b)
late true b e = cc
late false b e = refl

pub loop-i-preserved : goal.loop-i-preserved
loop-i-preserved c =
    let fixed = c.args.from in
    let used = c.args.used.now in
    let i = c.loop-i.i in
    let n = c.loop-i.next in
    let ks = c.loop-i.candidates in
    let so = c.loop-i.invariant in
    let k = get_or ks i c.index-candidates-i.result in
    let at : slice_get ks i ≡ Some k =
    slice_get-get_or ks i c.index-candidates-i.result (omega (arith, c.loop-i-test.true, so.long)) in
    elim c.if-asks_for_no_match.branch [
      | then-asks_for_no_match w ↦
          let name : w.if-i-from.set_named ≡ (nat_lt i fixed || get_or used n false) =
          elim w.if-i-from.branch [
            | then-i-from v ↦ v.set_named-is ∙ early _ _ (lt-ltb i fixed v.if-i-from.true)
            | else-i-from v ↦
                v.set_named-is ∙ v.is_marked.ensures ∙ late _ _ (le-ltb i fixed v.if-i-from.false)
          ] in
          rw (w.candidates-is, w.next-is) (record {
            few = omega (arith, so.few);
            long = ap length w.set_named.ensures ∙ renamed_long i _ ks ∙ so.long;
            done = subst (λ m. kept fixed used 0 0 c.args.candidates.now
                ≡ take m w.set_named.new.candidates
                ++ kept fixed used (i + 1) (n + 1) (drop m w.set_named.new.candidates))
                (sym (add-one i))
                (so.done ∙ kept_asked fixed used i n i ks k at
                (sym c.asks_for_no_match.ensures ∙ w.if-asks_for_no_match.true)
                ∙ ap (λ b. take (suc i) (renamed i b ks)
                ++ kept fixed used (i + 1) (n + 1) (drop (suc i) (renamed i b ks))) (sym name)
                ∙ ap (λ (ls : List Candidate). take (suc i) ls
                ++ kept fixed used (i + 1) (n + 1) (drop (suc i) ls)) (sym w.set_named.ensures));
          })
      | else-asks_for_no_match w ↦ rw (w.candidates-is, w.next-is) (record {
        few = omega (arith, so.few);
        long = so.long;
        done = subst (λ m. kept fixed used 0 0 c.args.candidates.now
            ≡ take m ks ++ kept fixed used (i + 1) n (drop m ks)) (sym (add-one i))
            (so.done ∙ kept_other fixed used i n i ks k at (sym c.asks_for_no_match.ensures ∙ w.if-asks_for_no_match.false));
      })
    ]
