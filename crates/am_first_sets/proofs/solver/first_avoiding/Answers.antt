use Rattle.std.proofs.Common.{◌+◌, List, length, subst, subst₂, sym, ap, ◌∙◌, arith}
use Rattle.std.specs.Borrow.{Bor}
use Rattle.std.proofs.lemmas.List.{length_push, length-map}
use Rattle.std.proofs.lemmas.Option.{slice_get_within}
use Rattle.am_universe.specs.Universe.{Label, sizes}
use Rattle.am_judged_lists.specs.Cube.{MaskedLabels}
use Rattle.am_first_sets.specs.Solving.{IsAnswer, NoneAvoids, IsLeast}
use Rattle.am_first_sets.proofs.SolverLemmas.{fixed_more, labels_left, below_size, first_found, first_nowhere}
use Rattle.am_first_sets.proofs.solver.first_avoiding.Goals as goal

pub returns-in_default-clause-first : goal.returns-in_default-clause-first
returns-in_default-clause-first c = λ test is.
    first_nowhere (sizes c.args.universe.now) c.args.start c.in_ok-cubes.cubes.items
    c.args.unwanted.now test c.in_ok-cubes.ensures.same
    (subst₂ NoneAvoids c.in_ok-try_clone.ensures.same c.as_slice.ensures.value
    (rw c.in_default.is at c.in_ok-found.ensures.none))
    is

pub fix_least-requires-clause-label : goal.fix_least-requires-clause-label
fix_least-requires-clause-label c =
    let labels = labels_left (sizes c.args.universe.now) c.args.start c.loop-label.left
    c.in_ok-cubes.cubes.items c.loop-label.found c.loop-label.choice c.requires
    c.loop-label.invariant.fixed in
    omega (
      arith,
      labels,
      slice_get_within (sizes c.args.universe.now) c.loop-label.label c.size-size.result
          c.size-size.ensures.size,
    )

pub fix_least-requires-clause-below : goal.fix_least-requires-clause-below
fix_least-requires-clause-below c =
    below_size (sizes c.args.universe.now) c.args.start c.loop-label.left
    c.in_ok-cubes.cubes.items c.loop-label.found c.loop-label.choice c.loop-label.label
    c.size-size.result c.requires c.loop-label.invariant.fixed c.size-size.ensures.size

pub loop-label-preserved : goal.loop-label-preserved
loop-label-preserved c =
    let cubes = c.in_ok-cubes.cubes.items in
    let long = c.loop-label.invariant.long in
    let p = c.in_ok-position.position in
    rw c.push.ensures.added (record {
      same = c.fix_least.ensures.same ∙ c.loop-label.invariant.same;
      long = length_push c.loop-label.choice p ∙ ap (λ n. n + 1) long;
      fixed = fixed_more c.args.start c.loop-label.left c.fix_least.new.left cubes c.loop-label.found
          c.fix_least.new.found c.loop-label.choice p c.loop-label.invariant.fixed
          (subst₂ (λ (xs : List (Bor MaskedLabels)) n. IsLeast c.loop-label.left xs n p)
          c.as_slice-in-loop-label.ensures.value (sym long) c.in_ok-position.ensures.least)
          (rw long c.in_ok-position.ensures.fixed)
          (subst (λ (xs : List (Bor MaskedLabels)). IsAnswer c.fix_least.new.left xs c.fix_least.new.found)
          c.as_slice-in-loop-label.ensures.value c.in_ok-position.ensures.found);
    })

pub returns-clause-first : goal.returns-clause-first
returns-clause-first c = λ test is.
    first_found (sizes c.args.universe.now) c.args.start c.loop-label.left
    c.in_ok-cubes.cubes.items c.args.unwanted.now c.loop-label.found c.loop-label.choice test
    c.requires c.in_ok-cubes.ensures.same c.loop-label.invariant.fixed
    (omega (
      arith,
      c.loop-label.invariant.long,
      c.loop-label-test.false,
      c.loop-label.auto.label-end,
      c.len-label-end.ensures.len,
      length-map c.args.universe.now (λ (l : Label). length l.values),
    ))
    is
