use Rattle.std.proofs.Common.{◌≡◌, ◌++◌, ◌+◌, Some, refl, sym, ap, ◌∙◌, append_assoc, drop}
use Rattle.std.specs.Prelude.{slice_get}
use Rattle.std.specs.List.{flat_map, enumerate_from}
use Rattle.std.proofs.lemmas.Option.{slice_get_read}
use Rattle.am_universe.proofs.Members.{left_at}
use Rattle.am_alerts.specs.AlertLists.{list_at, inhibitors_by}
use Rattle.am_alerts.proofs.alert_hiding.add_inhibitors.Goals as goal

pub loop-i-preserved : goal.loop-i-preserved
loop-i-preserved c = λ k s at.
    let rules = c.args.rules.now in
    let i = c.loop-i.i in
    let rule = c.index-rules-i.result in
    let by = inhibitors_by c.args.labels.now s in
    let there : slice_get rules i ≡ Some rule =
    slice_get_read rules _ i rule refl c.loop-i-test.true c.index-rules-i.is in
    ap (λ xs. xs ++ flat_map by (enumerate_from (i + 1) (drop (i + 1) rules)))
    (c.in_ok-add_inhibitors_by.ensures.added k s at)
    ∙ append_assoc (list_at c.loop-i.found k) (by (i, rule)) _
    ∙ ap (λ xs. list_at c.loop-i.found k ++ flat_map by (enumerate_from i xs))
    (sym (left_at rules i rule there))
    ∙ c.loop-i.invariant k s at
