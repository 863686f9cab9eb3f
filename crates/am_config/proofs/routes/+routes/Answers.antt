use Rattle.std.proofs.Common.{◌∷◌, [], length, arith, ap, ◌∙◌}
use Rattle.std.proofs.lemmas.List.{length-append}
use Rattle.am_config.proofs.RouteLists.{child_within, one_more}
use Rattle.am_config.proofs.routes.+routes.Goals as goal

pub add_children-overflow_cast-position : goal.add_children-overflow_cast-position
add_children-overflow_cast-position t c =
    let w = child_within c.args.children.now c.loop-position.position
    c.index-children-position.result c.loop-position-test.true c.index-children-position.is in
    omega (arith, w.counted, w.some_count, c.requires.few)

pub add_children-child-requires : goal.add_children-child-requires
add_children-child-requires t c =
    let w = child_within c.args.children.now c.loop-position.position
    c.index-children-position.result c.loop-position-test.true c.index-children-position.is in
    record { room = omega (arith, w.levels, w.some_levels, c.requires.room) }

pub add_children-add_route-requires : goal.add_children-add_route-requires
add_children-add_route-requires t c =
    let w = child_within c.args.children.now c.loop-position.position
    c.index-children-position.result c.loop-position-test.true c.index-children-position.is in
    let longer = ap length c.child.ensures.steps
    ∙ length-append c.args.path (c.loop-position.position ∷ []) in (
      omega (arith, c.decreases, w.counted),
      (omega (arith, longer, w.levels, c.requires.room), omega (arith, w.counted, c.requires.few)),
    )

pub add_children-loop-position-preserved : goal.add_children-loop-position-preserved
add_children-loop-position-preserved t c =
    let l = c.loop-position in
    record {
      paths = one_more (λ r. r.0) c.args.path c.child.result l.position
          c.index-children-position.result c.args.children.now _ _ _ c.loop-position-test.true
          c.index-children-position.is c.child.ensures.steps
          c.in_ok-add_route.ensures.added.paths l.invariant.paths;
      routes = one_more (λ r. r.1) c.args.path c.child.result l.position
          c.index-children-position.result c.args.children.now _ _ _ c.loop-position-test.true
          c.index-children-position.is c.child.ensures.steps
          c.in_ok-add_route.ensures.added.routes l.invariant.routes;
    }
