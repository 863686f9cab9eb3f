use Rattle.std.proofs.Common.{◌++◌, ◌∷◌, List, [], take, if◌then◌else◌, sym, ap, ◌∙◌}
use Rattle.std.proofs.lemmas.List.{take_more}
use Rattle.am_alerts.specs.declared.route_ends.RouteEnds.{RouteEnds}
use Rattle.am_alerts.specs.AlertLabels.{flag}
use Rattle.am_alerts.specs.RouteEnds.{ends_of}
use Rattle.am_alerts.proofs.RowLemmas.{pushed_row}
use Rattle.am_alerts.proofs.route_ends.rows_of.Goals as goal

pub loop-path-preserved : goal.loop-path-preserved
loop-path-preserved c =
    let rows = c.loop-path.rows.items in
    let path = c.path-item.result in
    let paths = c.args.paths.now in
    let index = c.loop-path.path-index in
    ap (λ (rs : List RouteEnds). ends_of rs 0) c.in_ok-push.ensures.items
    ∙ pushed_row rows (record { path = path; alerts = c.in_ok-vec.field-0 }) 0
    ∙ ap (λ flags. if flag flags 0 then ends_of rows 0 ++ path ∷ [] else ends_of rows 0)
    (c.in_ok-vec.ensures.items_if_clones_equal (λ y h. h))
    ∙ ap (λ front. front ++ path ∷ []) c.loop-path.invariant
    ∙ ap (λ p. take index paths ++ p ∷ []) c.path-item.is
    ∙ sym (take_more paths index path c.loop-path-test.true)
