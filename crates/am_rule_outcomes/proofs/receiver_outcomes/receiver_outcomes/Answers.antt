use Rattle.std.proofs.Common.{◌≡◌, ◌∷◌, ◌++◌, [], true, false, map, take, sym, ap, ◌∙◌, refl, arith}
use Rattle.std.proofs.lemmas.Bool.{not-true, not-false}
use Rattle.std.proofs.lemmas.List.{map-append, take_all}
use Rattle.am_outcomes.specs.OutcomesView.{lists_view}
use Rattle.am_rule_outcomes.specs.NarrowingView.{receiver_outcome_view}
use Rattle.am_rule_outcomes.specs.ReceiverOutcomes.{receiver_outcome, receivers_of, silenced_of}
use Rattle.am_rule_outcomes.specs.ReceiverOutcomes.{some_with}
use Rattle.am_rule_outcomes.proofs.ReceiverOutcomes.{Outcome, Key, texts, has_receivers, alike_keys}
use Rattle.am_rule_outcomes.proofs.ReceiverOutcomes.{firsts_of, seen_more, first_by}
use Rattle.am_rule_outcomes.proofs.receiver_outcomes.receiver_outcomes.Goals as goal
use Rattle.am_rule_outcomes.proofs.receiver_outcomes.receiver_outcomes.Goals.{then-branch+in_ok-push, else-branch}

pub loop-i-preserved : goal.loop-i-preserved
loop-i-preserved c =
    let os = c.args.outcomes.now in
    let i = c.loop-i.i in
    let o : Outcome = (lists_view c.get.result.0.now, c.get.result.1.now) in
    let at = c.get.ensures.outcome in
    let r : Key = c.list_at-receivers.result in
    let is : r.now ≡ receivers_of o = c.list_at-receivers.ensures.list in
    let ks = c.loop-i.seen.keys in
    let so_far = c.loop-i.invariant in
    let same = alike_keys _ (λ x y. refl) ks r in
    let added = c.in_ok-insert.ensures.added in
    record {
      seen = ap texts c.in_ok-insert.ensures.keys
          ∙ seen_more _ (λ x y. refl) os i o ks r at is so_far.seen;
      found = elim c.if-branch.branch [
        | then-branch+in_ok-push w ↦
            let has : has_receivers ks r.now ≡ false =
            sym same ∙ not-true _ (sym added ∙ w.if-branch.true) in
            let some : w.contains.result ≡ some_with true os (receivers_of o) =
            w.contains.ensures ∙ c.in_ok-silenced.ensures r.now ∙ ap (some_with true os) is in
            let others : w.contains-then-branch.result ≡ some_with false os (receivers_of o) =
            w.contains-then-branch.ensures ∙ c.in_ok-others.ensures r.now ∙ ap (some_with false os) is in
            ap (λ found. map receiver_outcome_view found.items) w.found-is
            ∙ ap (map receiver_outcome_view) w.in_ok-push.ensures.items
            ∙ map-append receiver_outcome_view c.loop-i.found.items _
            ∙ (λ j. so_far.found j ++ (record {
              receivers = is j;
              first = o.1;
              silenced = (w.silenced_of.ensures ∙ (λ k. silenced_of (some k) (others k))) j;
            }) ∷ [])
            ∙ sym (map-append (receiver_outcome os) (firsts_of (take i os)) ((receivers_of o, o.1) ∷ []))
            ∙ ap (map (receiver_outcome os)) (sym (first_by false os i o ks r at is so_far.seen has))
        | else-branch w ↦
            let has : has_receivers ks r.now ≡ true =
            sym same ∙ not-false _ (sym added ∙ w.if-branch.false) in
            ap (λ found. map receiver_outcome_view found.items) w.found-is ∙ so_far.found
            ∙ ap (map (receiver_outcome os)) (sym (first_by true os i o ks r at is so_far.seen has))
      ];
    }

pub returns : goal.returns
returns c =
    let os = c.args.outcomes.now in
    c.loop-i.invariant.found
    ∙ ap (λ taken. map (receiver_outcome os) (firsts_of taken)) (take_all c.loop-i.i os (omega arith))
