-- A literal that follows from the others loses its name, and any other one is needed.
use Rattle.std.proofs.Common.{◌≡◌, ◌<◌, ◌+◌, ◌-◌, List, length, sym, ap, ◌∙◌, subst, arith}
use Rattle.std.proofs.Common.{get_or, false}
use Rattle.std.proofs.lemmas.Bool.{both_ways}
use Rattle.std.proofs.lemmas.Option.{slice_get-get_or, get_or_from_slice_get}
use Rattle.am_first_sets.specs.declared.candidate.Candidate.{Candidate}
use Rattle.am_first_sets.specs.PossibleChoices.{IsPossible}
use Rattle.am_first_sets.proofs.ReasonLemmas.{renamed_is_set}
use Rattle.am_route_alerts.proofs.ImpliedLemmas.{LeavesOut, none_left_out, one_left_out, one_left}
use Rattle.am_route_alerts.proofs.NearbyLemmas.{hints_fewer}
use Rattle.am_route_alerts.proofs.implied.leave_out_implied.Goals.{else-literals-i-via-then-literals-i+in_ok-is_implied+else-branch}
use Rattle.am_route_alerts.proofs.implied.leave_out_implied.Goals.{else-literals-i-via-else-literals-i}
use Rattle.am_route_alerts.proofs.implied.leave_out_implied.Goals as goal

pub loop-i-init : goal.loop-i-init
loop-i-init c = none_left_out (IsPossible c.args.possible.now) c.args.from c.args.literals.now

pub is_implied-requires-clause-hints : goal.is_implied-requires-clause-hints
is_implied-requires-clause-hints c =
    hints_fewer c.args.literals.now c.loop-i.literals c.args.hints.now c.loop-i.invariant.fewer
    c.requires.hints

pub loop-i-preserved-then-branch : goal.loop-i-preserved-then-branch
loop-i-preserved-then-branch c =
    let Is = IsPossible c.args.possible.now in
    let from = c.args.from in
    let old = c.args.literals.now in
    let ks = c.loop-i.literals in
    let n = c.loop-i.i in
    let i = n - 1 in
    let k = get_or ks i c.index-literals-i.result in
    let lt : i < length ks = omega arith in
    let next : n ≡ i + 1 = omega arith in
    let at = slice_get-get_or ks i c.index-literals-i.result lt in
    subst (λ (ls : List Candidate). LeavesOut Is from i old ls)
    (sym (renamed_is_set i false ks c.index-literals-i-then-branch.result lt))
    (one_left_out Is from i n old ks next c.loop-i.invariant k at c.if-literals-i.true
    (omega arith) (c.in_ok-is_implied.ensures.implied c.if-branch.true))

pub loop-i-preserved : goal.loop-i-preserved
loop-i-preserved c =
    let Is = IsPossible c.args.possible.now in
    let ks = c.loop-i.literals in
    let n = c.loop-i.i in
    let i = n - 1 in
    let next : n ≡ i + 1 = omega arith in
    one_left Is c.args.from i n c.args.literals.now ks next c.loop-i.invariant (λ k at named.
    let is = get_or_from_slice_get ks i k c.index-literals-i.result at in
    elim c.else-literals-i.branch [
      | else-literals-i-via-then-literals-i+in_ok-is_implied+else-branch w ↦
          w.in_ok-is_implied.ensures.needed w.if-branch.false
      | else-literals-i-via-else-literals-i w ↦
          absurd (both_ways k.named
          (ap (λ (x : Candidate). x.named) (sym is) ∙ w.if-literals-i.false) named)
    ])
