-- One more alert.
use Rattle.std.proofs.Common.{◌≡◌, [], ◌∷◌, ap, ◌∙◌, append_assoc}
use Rattle.am_universe.proofs.Members.{left_at}
use Rattle.am_universe.specs.LabelSet.{LabelMap}
use Rattle.am_labels.specs.Matcher.{all_hold}
use Rattle.am_firing.proofs.matching.matches_of.Goals as goal

pub loop-i-preserved : goal.loop-i-preserved
loop-i-preserved c =
    let alerts = c.args.alerts.now in
    let alert = c.get.result.now in
    let test = λ (x : LabelMap). all_hold x c.args.matchers.now in
    let is : c.in_ok-matches.field-0 ≡ test alert =
    c.in_ok-matches.ensures.matched ∙ ap (all_hold alert) c.loop-i.invariant.same in
    record {
      so_far = rw (c.in_ok-push.ensures.items, is)
          (append_assoc c.loop-i.found.items (test alert ∷ []) _
          ∙ (rw (left_at alerts c.loop-i.i alert c.get.ensures.alert) at c.loop-i.invariant.so_far));
      same = c.in_ok-matches.ensures.same ∙ c.loop-i.invariant.same;
    }
