use Rattle.std.proofs.Common.{◌++◌, sym, ◌∙◌, arith}
use Rattle.am_judged_lists.proofs.BuildLemmas.{built_more, built_past, built_exact, all_sized}
use Rattle.am_judged_lists.proofs.cube.Cube.of_rows.Goals as goal
use Rattle.am_judged_lists.proofs.cube.Cube.of_rows.Goals.{then-is_any_of+in_ok-mask+in_ok-restrict}
use Rattle.am_judged_lists.proofs.cube.Cube.of_rows.Goals.{else-is_any_of+else-is_any_of-2}

pub of_rows-requires-clause-rows : goal.of_rows-requires-clause-rows
of_rows-requires-clause-rows c =
    (all_sized c.args.universe.now c.requires.rows.0 c.args.rows.now c.args.more.now
    c.loop-label.label c.size-size.result c.requires.rows.1 c.size-size.ensures.size).0

pub of_rows-requires-clause-more : goal.of_rows-requires-clause-more
of_rows-requires-clause-more c =
    (all_sized c.args.universe.now c.requires.rows.0 c.args.rows.now c.args.more.now
    c.loop-label.label c.size-size.result c.requires.rows.1 c.size-size.ensures.size).1

pub loop-label-preserved : goal.loop-label-preserved
loop-label-preserved c =
    let u = c.args.universe.now in
    let rows = c.args.rows.now in
    let more = c.args.more.now in
    let label = c.loop-label.label in
    let so_far = c.loop-label.invariant in
    elim c.if-is_any_of.branch [
      | then-is_any_of+in_ok-mask+in_ok-restrict w ↦ rw (w.cube-is, w.in_ok-restrict.ensures.restricted)
          (built_more u (rows ++ more) c.loop-label.cube label w.in_ok-mask.mask w.size-size.result
          so_far w.size-size.ensures.size w.in_ok-mask.ensures.permitted)
      | else-is_any_of+else-is_any_of-2 w ↦ rw w.cube-is
          (built_past u rows more c.loop-label.cube label so_far
          (sym c.is_any_of.ensures ∙ w.if-is_any_of.false)
          (sym w.is_any_of-else-is_any_of.ensures ∙ w.if-is_any_of-2.false))
    ]

pub returns : goal.returns
returns c = record {
  exact = λ ms same. built_exact c.args.universe.now ms (c.args.rows.now ++ c.args.more.now)
      c.loop-label.cube c.loop-label.label c.len.ensures.universe same (omega arith)
      c.loop-label.invariant;
}
