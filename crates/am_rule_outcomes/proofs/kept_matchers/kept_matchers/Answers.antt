use Rattle.std.proofs.Common.{◌++◌, ◌∷◌, [], List, length, append-nil, sym, ap, ◌∙◌, arith}
use Rattle.am_labels.specs.Matcher.{Matcher}
use Rattle.am_universe.proofs.LabelPairLemmas.{found_at}
use Rattle.am_rule_outcomes.proofs.KeptMatchers.{kept_more, one_matcher}
use Rattle.am_rule_outcomes.proofs.kept_matchers.kept_matchers.Goals as goal
use Rattle.am_rule_outcomes.proofs.kept_matchers.kept_matchers.Goals.{in-Some+in_ok-kept_matcher+in_ok-push, in_default}

pub loop-i-preserved : goal.loop-i-preserved
loop-i-preserved c =
    let l = found_at c.args.universe.now c.loop-i.i (omega arith) in
    let so_far : List Matcher = c.loop-i.matchers.items in
    let few = c.loop-i.invariant.few in
    elim c.match-kept_position.branch [
      | in-Some+in_ok-kept_matcher+in_ok-push w ↦
          let long = ap (λ ms. length ms.items) w.matchers-is in
          record {
            few = omega (arith, few, long, w.in_ok-push.ensures.len);
            made = kept_more c.args.universe.now c.args.narrowing.now c.loop-i.i l.0 l.1 so_far _
                c.loop-i.invariant.made
                (ap (λ ms. ms.items) w.matchers-is ∙ w.in_ok-push.ensures.items
                ∙ ap (λ m. so_far ++ m ∷ []) (w.in_ok-kept_matcher.ensures l.0 l.1)
                ∙ ap (λ k. so_far ++ one_matcher l.0 k) (sym w.in-Some.is ∙ c.kept_position.ensures));
          }
      | in_default w ↦
          let long = ap (λ ms. length ms.items) w.matchers-is in
          record {
            few = omega (arith, few, long);
            made = kept_more c.args.universe.now c.args.narrowing.now c.loop-i.i l.0 l.1 so_far _
                c.loop-i.invariant.made
                (ap (λ ms. ms.items) w.matchers-is ∙ sym (append-nil so_far)
                ∙ ap (λ k. so_far ++ one_matcher l.0 k) (sym w.in_default.is ∙ c.kept_position.ensures));
          }
    ]
