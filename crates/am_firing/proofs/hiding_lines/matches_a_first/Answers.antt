-- The first alert of one more receiver is not matched, or no alert goes to it.
use Rattle.std.proofs.Common.{◌≡◌, ◌+◌, ◌∷◌, ◌++◌, [], Some, None, false, get_or, map, take, ap, sym, subst, ◌∙◌}
use Rattle.std.specs.Prelude.{slice_get}
use Rattle.std.specs.List.{AllByRecursion}
use Rattle.std.proofs.lemmas.List.{take_more, get_or-map}
use Rattle.std.proofs.lemmas.Option.{get_or_from_slice_get, slice_get_within}
use Rattle.am_universe.specs.LabelSet.{LabelMap}
use Rattle.am_universe.proofs.DistinctLists.{all_push}
use Rattle.am_labels.specs.Matcher.{all_hold}
use Rattle.am_firing.specs.Going.{are_all_marked}
use Rattle.am_firing.proofs.FirstMarked.{no_first, first_unmarked}
use Rattle.am_firing.proofs.hiding_lines.matches_a_first.Goals as goal
use Rattle.am_firing.proofs.hiding_lines.matches_a_first.Goals.{in-Some+in_ok-matches+else-branch, in_default}

pub loop-positions-preserved : goal.loop-positions-preserved
loop-positions-preserved c =
    let alerts = c.args.alerts.now in
    let going = c.args.going.now in
    let i = c.loop-positions.positions-index in
    let row = c.positions-item.result in
    let kept = c.loop-positions.invariant in
    let test = λ (alert : LabelMap). all_hold alert c.args.matchers.now in
    let more : are_all_marked (map test alerts) row.items ≡ false
    → AllByRecursion (λ positions. are_all_marked (map test alerts) positions.items ≡ false)
    (take (i + 1) going) = λ none.
    subst (AllByRecursion (λ positions. are_all_marked (map test alerts) positions.items ≡ false))
    (ap (λ x. take i going ++ x ∷ []) c.positions-item.is
    ∙ sym (take_more going i row c.loop-positions-test.true))
    (all_push (λ positions. are_all_marked (map test alerts) positions.items ≡ false)
    (take i going) row kept.none none) in
    elim c.match-first.branch [
      | in-Some+in_ok-matches+else-branch v ↦
          let first = v.in-Some.first.now in
          let alert = v.get.result.now in
          let at : slice_get row.items 0 ≡ Some first =
          ap (λ xs. slice_get xs 0) (sym c.deref.ensures.value) ∙ sym v.in-Some.ensures.value in
          let fails : test alert ≡ false =
          ap (all_hold alert) (sym kept.same) ∙ sym v.in_ok-matches.ensures.matched
          ∙ v.if-branch.false in
          let unmarked : get_or (map test alerts) first false ≡ false =
          get_or-map test alerts first alert false (slice_get_within alerts first alert v.get.ensures.alert)
          ∙ ap test (get_or_from_slice_get alerts first alert alert v.get.ensures.alert) ∙ fails in
          record {
            none = more (first_unmarked (map test alerts) row.items first at unmarked);
            same = v.prepared-is ∙ v.in_ok-matches.ensures.same ∙ kept.same;
          }
      | in_default v ↦
          let at : slice_get row.items 0 ≡ None =
          ap (λ xs. slice_get xs 0) (sym c.deref.ensures.value) ∙ sym v.in_default.ensures.value in
          record {
            none = more (no_first (map test alerts) row.items at);
            same = v.prepared-is ∙ kept.same;
          }
    ]
