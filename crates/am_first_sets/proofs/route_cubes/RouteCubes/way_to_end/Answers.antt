use Rattle.std.proofs.Common.{◌+◌, drop, refl, arith}
use Rattle.std.proofs.lemmas.List.{drop_all}
use Rattle.std.proofs.lemmas.Option.{slice_get_read}
use Rattle.am_first_sets.proofs.CubeEnds.{left_of_path, begun, one_step, last_step, no_step}
use Rattle.am_first_sets.proofs.route_cubes.RouteCubes.way_to_end.Goals as goal

pub loop-i-init : goal.loop-i-init
loop-i-init c = λ choice.
    begun choice c.args.path.now c.args.self.now c.new-wanted.result.items
    c.push.new.self.items c.new-unwanted.result.items _ refl
    c.new-wanted.ensures.items c.in_ok-push.ensures.items c.new-unwanted.ensures.items

pub returns-then-position-children : goal.returns-then-position-children
returns-then-position-children c = record {
  way = λ choice.
      let l = c.loop-i in
      let path = c.args.path.now in
      no_step choice _ l.route.now l.wanted.items l.unwanted.items (drop l.i path)
      (l.invariant choice) c.as_slice-children.result.now c.as_slice-children.ensures.value
      c.from-position.result (drop (l.i + 1) path)
      (left_of_path path l.i c.from-position.result
      (omega (arith, c.len-i-end.ensures.len, c.loop-i-test.true)) (cc))
      c.if-position-children.true;
}

pub loop-i-preserved : goal.loop-i-preserved
loop-i-preserved c = λ choice.
    let l = c.loop-i in
    let path = c.args.path.now in
    let p = c.from-position.result in
    let children = c.as_slice-children.result.now in
    one_step choice _ l.route.now l.wanted.items l.unwanted.items (drop l.i path)
    (l.invariant choice) children c.as_slice-children.ensures.value
    c.push-in-loop-i.new.self.items c.push_stops.new.cubes.items _ p (drop (l.i + 1) path)
    c.index-children-position.result
    (left_of_path path l.i p (omega (arith, c.len-i-end.ensures.len, c.loop-i-test.true)) (cc))
    (slice_get_read children _ p c.index-children-position.result refl c.if-position-children.false
    c.index-children-position.is)
    refl c.in_ok-push-2.ensures.items (c.in_ok-push_stops.ensures choice)

pub returns : goal.returns
returns c = record {
  way = λ choice.
      let l = c.loop-i in
      let path = c.args.path.now in
      last_step choice _ l.route.now l.wanted.items l.unwanted.items (drop l.i path)
      (l.invariant choice) c.as_slice.result.now c.as_slice.ensures.value
      c.push_stops-2.new.cubes.items
      (drop_all l.i path (omega (arith, c.len-i-end.ensures.len, c.loop-i-test.false)))
      (c.in_ok-push_stops-2.ensures choice);
}
