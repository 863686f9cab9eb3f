-- One label more has its list.
use Rattle.std.proofs.Common.{◌≡◌, ◌+◌, ℕ, List, Some, length, ap, ◌∙◌, subst}
use Rattle.std.specs.Prelude.{slice_get}
use Rattle.std.specs.Global.{Vec}
use Rattle.std.proofs.lemmas.List.{length_push}
use Rattle.am_route_alerts.proofs.NearbyLemmas.{listed_more}
use Rattle.am_route_alerts.proofs.nearby.Nearby.of.Goals as goal

pub loop-label-preserved : goal.loop-label-preserved
loop-label-preserved c =
    let before = c.loop-label.asking.items in
    let found = c.in_ok-asking_about.field-0 in
    let so = c.loop-label.invariant in
    record {
      long = ap length c.in_ok-push.ensures.items ∙ length_push before found
          ∙ ap (λ n. n + 1) so.long;
      lists = λ label list at.
          listed_more c.args.literals.now before found c.loop-label.label so.long so.lists
          c.in_ok-asking_about.ensures label list
          (subst (λ (xs : List (Vec ℕ)). slice_get xs label ≡ Some list) c.in_ok-push.ensures.items
          at);
    }
