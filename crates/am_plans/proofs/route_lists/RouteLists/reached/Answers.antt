use Rattle.std.proofs.Common.{◌≡◌, ℕ, true, nat_eq, ◌&&◌, ◌||◌, length, refl, sym, ap, ◌∙◌, arith}
use Rattle.std.proofs.lemmas.Option.{slice_get_read, slice_get_past}
use Rattle.am_eval.specs.declared.reach.Reach.{Reach}
use Rattle.am_eval.specs.declared.reach.Reach.TheVariants.{Ends, Enters}
use Rattle.am_judged_lists.specs.CubeSetView.{contains, are_apart}
use Rattle.am_judged_lists.specs.Places.{passes_if_there}
use Rattle.am_judged_lists.proofs.BlockLemmas.{one_more}
use Rattle.am_plans.specs.RoutesByWays.{reaches_by, reached_at}
use Rattle.am_plans.proofs.RouteMade.{none_more, all_taken}
use Rattle.am_plans.proofs.route_lists.RouteLists.reached.Goals as goal
use Rattle.am_plans.proofs.route_lists.RouteLists.reached.Goals.{then-is_entered, else-is_entered}

pub loop-i-preserved : goal.loop-i-preserved
loop-i-preserved c =
    let passing = contains c.args.passing.now in
    let matched = contains c.args.matched.now in
    let ways = c.args.self.now.ways.items in
    let i = c.loop-i.i in
    let way = c.index-way.result.now in
    let reached = reached_at passing matched in
    let at = slice_get_read ways (length ways) i way refl (omega (arith, c.loop-i-test.true, c.min-i-end.ensures, c.len.ensures)) c.index-way.ensures in
    let here : (reach : Reach) (k : ℕ) → k ≡ i → reached reach ways k ≡ reaches_by passing matched reach i way =
    λ reach k same. ap (reached reach ways) same ∙ ap (passes_if_there (reaches_by passing matched reach i)) at in
    let entered = c.loop-i.invariant.entered in
    let ended = c.loop-i.invariant.ended in
    elim c.if-is_entered.branch [
      | then-is_entered w ↦
          let enters = sym c.is_entered.ensures ∙ w.if-is_entered.true in
          record {
            entered = λ k. rw w.entered-is (w.insert_if.ensures.inserted k ∙ (λ j. entered k j || (nat_eq k i && true))
                ∙ sym (one_more k i (reached Enters ways k) true (λ same. here Enters k same ∙ enters)));
            ended = λ k. rw w.ended-is (w.insert_if-then-is_entered.ensures.inserted k
                ∙ (λ j. ended k j || (nat_eq k i && w.misses.ensures.apart j))
                ∙ sym (one_more k i (reached Ends ways k) (are_apart (contains way.children) matched)
                (λ same. here Ends k same ∙ ap (λ b. b && are_apart (contains way.children) matched) enters)));
          }
      | else-is_entered w ↦
          let enters = sym c.is_entered.ensures ∙ w.if-is_entered.false in
          record {
            entered = λ k. rw w.entered-is (entered k ∙ none_more k i (reached Enters ways k) (λ same. here Enters k same ∙ enters));
            ended = λ k. rw w.ended-is (ended k ∙ none_more k i (reached Ends ways k)
                (λ same. here Ends k same ∙ ap (λ b. b && are_apart (contains way.children) matched) enters));
          }
    ]

pub returns-clause-entered : goal.returns-clause-entered
returns-clause-entered c = λ k h.
    let ways = c.args.self.now.ways.items in
    c.loop-i.invariant.entered k
    ∙ all_taken k c.loop-i.i (reached_at (contains c.args.passing.now) (contains c.args.matched.now) Enters ways k)
    (λ past. ap (passes_if_there (reaches_by (contains c.args.passing.now) (contains c.args.matched.now) Enters k))
    (slice_get_past ways k (omega (arith, past, h, c.loop-i-test.false, c.min-i-end.ensures, c.len.ensures))))

pub returns-clause-ended : goal.returns-clause-ended
returns-clause-ended c = λ k h.
    let ways = c.args.self.now.ways.items in
    c.loop-i.invariant.ended k
    ∙ all_taken k c.loop-i.i (reached_at (contains c.args.passing.now) (contains c.args.matched.now) Ends ways k)
    (λ past. ap (passes_if_there (reaches_by (contains c.args.passing.now) (contains c.args.matched.now) Ends k))
    (slice_get_past ways k (omega (arith, past, h, c.loop-i-test.false, c.min-i-end.ensures, c.len.ensures))))
