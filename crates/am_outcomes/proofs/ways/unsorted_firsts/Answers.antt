use Rattle.std.proofs.Common.{◌≡◌, ◌++◌, ◌∷◌, [], List, ℕ, length, subst, arith}
use Rattle.std.proofs.lemmas.List.{length_push}
use Rattle.am_universe.specs.Universe.{Label}
use Rattle.am_universe.specs.LabelSet.{label_set_of}
use Rattle.am_labels.specs.Matcher.{all_hold}
use Rattle.am_labels.specs.Space.{IsChoiceOf}
use Rattle.am_judged_lists.specs.Cube.{matches, IsCubeOf}
use Rattle.am_first_sets.specs.PossibleSets.{possible_space}
use Rattle.am_first_sets.proofs.CubeTruth.{matches_where}
use Rattle.am_outcomes.specs.Steps.{GoesThrough}
use Rattle.am_outcomes.proofs.WaysFound.{started, not_started, taken_walk, gone_on, found_one}
use Rattle.am_outcomes.proofs.WaysFound.{found_none, many_ways, all_found}
use Rattle.am_outcomes.proofs.ways.unsorted_firsts.Goals as goal
use Rattle.am_outcomes.proofs.ways.unsorted_firsts.Goals.{in-Some+in_ok-push, in_default}
use Rattle.am_outcomes.proofs.ways.unsorted_firsts.Goals.{in-Some-2+else-len-ge-MAX_WAYS+in_ok-push-2, in_default-2}

pub loop-walk-init : goal.loop-walk-init
loop-walk-init c = λ t ms goes is_cube.
    let s = possible_space c.args.possible.now in
    let cube = c.args.cube.now in
    let exact : (d : List ℕ) → IsChoiceOf s d → matches cube d ≡ all_hold (label_set_of s.labels d) ms =
    λ d choice.
    matches_where s.labels d choice.0 ms cube
    (subst (λ (u : List Label). IsCubeOf u ms cube) c.requires.labels is_cube d choice.0.0) in
    elim c.match-branch-2.branch [
      | in-Some+in_ok-push w ↦
          rw (
            w.walks-is,
            w.in_ok-push.ensures.items,
            c.new-walks.ensures.items,
            c.new-firsts.ensures.items,
          )
          (started s ms t c.args.steps.now cube exact _ (rw w.in-Some.is at c.in_ok-start.ensures.some)
          (λ d choice. subst (λ (u : List Label). GoesThrough u t c.args.steps.now (length c.args.steps.now))
          c.requires.labels goes d choice.0))
      | in_default w ↦
          rw (w.walks-is, c.new-walks.ensures.items, c.new-firsts.ensures.items)
          (not_started s ms t c.args.steps.now cube exact
          (rw w.in_default.is at c.in_ok-start.ensures.none))
    ]

pub bounds-steps-walk : goal.bounds-steps-walk
bounds-steps-walk c =
    let near = (taken_walk (possible_space c.args.possible.now) c.requires.cube.0 c.requires.goes.0
    c.args.steps.now
    c.loop-walk.walks.items c.pop.new.self.items c.in-Some-pop.walk c.loop-walk.firsts.items
    c.in-Some-pop.ensures.items (c.loop-walk.invariant c.requires.goes.0 c.requires.cube.0 c.requires.goes.1
    c.requires.cube.1)).near in
    omega (arith, near, c.if-walk-gt0.true)

pub offset_bounds-steps-walk : goal.offset_bounds-steps-walk
offset_bounds-steps-walk c =
    let near = (taken_walk (possible_space c.args.possible.now) c.requires.cube.0 c.requires.goes.0
    c.args.steps.now
    c.loop-walk.walks.items c.pop.new.self.items c.in-Some-pop.walk c.loop-walk.firsts.items
    c.in-Some-pop.ensures.items (c.loop-walk.invariant c.requires.goes.0 c.requires.cube.0 c.requires.goes.1
    c.requires.cube.1)).near in
    omega (arith, near, c.if-walk-gt0.true)

pub loop-walk-smaller-then-walk-gt0 : goal.loop-walk-smaller-then-walk-gt0
loop-walk-smaller-then-walk-gt0 c =
    (gone_on (possible_space c.args.possible.now) c.requires.cube.0 c.requires.goes.0
    c.args.steps.now
    c.loop-walk.walks.items c.pop.new.self.items c.in-Some-pop.walk c.loop-walk.firsts.items
    c.in-Some-pop.ensures.items (c.loop-walk.invariant c.requires.goes.0 c.requires.cube.0 c.requires.goes.1
    c.requires.cube.1)
    c.push_branches.new.walks.items c.index-steps-walk.result c.if-walk-gt0.true
    c.index-steps-walk.is c.requires.steps c.in_ok-push_branches.ensures).1

pub loop-walk-preserved-then-walk-gt0 : goal.loop-walk-preserved-then-walk-gt0
loop-walk-preserved-then-walk-gt0 c = λ t ms goes is_cube.
    (gone_on (possible_space c.args.possible.now) ms t c.args.steps.now c.loop-walk.walks.items
    c.pop.new.self.items c.in-Some-pop.walk c.loop-walk.firsts.items c.in-Some-pop.ensures.items
    (c.loop-walk.invariant t ms goes is_cube) c.push_branches.new.walks.items c.index-steps-walk.result
    c.if-walk-gt0.true c.index-steps-walk.is c.requires.steps c.in_ok-push_branches.ensures).0

pub returns-then-len-ge-MAX_WAYS-clause-many : goal.returns-then-len-ge-MAX_WAYS-clause-many
returns-then-len-ge-MAX_WAYS-clause-many c = λ t ms goes is_cube.
    let s = possible_space c.args.possible.now in
    let firsts = c.loop-walk.firsts.items in
    let first = c.in-Some-2.first in
    let long = length_push firsts first in
    many_ways s ms t c.args.steps.now c.pop.new.self.items (firsts ++ first ∷ [])
    (found_one s ms t c.args.steps.now c.loop-walk.walks.items c.pop.new.self.items
    c.in-Some-pop.walk firsts c.in-Some-pop.ensures.items (c.loop-walk.invariant t ms goes is_cube)
    c.in_ok-first.field-0 c.in_ok-first.ensures first
    c.in-Some-2.is (omega (arith, c.if-walk-gt0.false)))
    (omega (arith, c.len.ensures, c.if-len-ge-MAX_WAYS.true, long))

pub loop-walk-preserved : goal.loop-walk-preserved
loop-walk-preserved c = λ t ms goes is_cube.
    let s = possible_space c.args.possible.now in
    let steps = c.args.steps.now in
    let firsts = c.loop-walk.firsts.items in
    let so_far = c.loop-walk.invariant t ms goes is_cube in
    elim c.match-branch-6.branch [
      | in-Some-2+else-len-ge-MAX_WAYS+in_ok-push-2 w ↦
          rw (w.firsts-is, w.in_ok-push-2.ensures.items)
          (found_one s ms t steps c.loop-walk.walks.items c.pop.new.self.items c.in-Some-pop.walk
          firsts c.in-Some-pop.ensures.items so_far c.in_ok-first.field-0 c.in_ok-first.ensures
          w.in-Some-2.first w.in-Some-2.is (omega (arith, c.if-walk-gt0.false)))
      | in_default-2 w ↦
          rw w.firsts-is
          (found_none s ms t steps c.loop-walk.walks.items c.pop.new.self.items c.in-Some-pop.walk
          firsts c.in-Some-pop.ensures.items so_far c.in_ok-first.field-0 c.in_ok-first.ensures
          w.in_default-2.is)
    ]

pub loop-walk-preserved-after-branch-6 : goal.loop-walk-preserved-after-branch-6
loop-walk-preserved-after-branch-6 c = λ t ms goes is_cube.
    let s = possible_space c.args.possible.now in
    let steps = c.args.steps.now in
    let firsts = c.loop-walk.firsts.items in
    let so_far = c.loop-walk.invariant t ms goes is_cube in
    elim c.match-branch-6.branch [
      | in-Some-2+else-len-ge-MAX_WAYS+in_ok-push-2 w ↦
          rw (w.firsts-is, w.in_ok-push-2.ensures.items)
          (found_one s ms t steps c.loop-walk.walks.items c.pop.new.self.items c.in-Some-pop.walk
          firsts c.in-Some-pop.ensures.items so_far c.in_ok-first.field-0 c.in_ok-first.ensures
          w.in-Some-2.first w.in-Some-2.is (omega (arith, c.if-walk-gt0.false)))
      | in_default-2 w ↦
          rw w.firsts-is
          (found_none s ms t steps c.loop-walk.walks.items c.pop.new.self.items c.in-Some-pop.walk
          firsts c.in-Some-pop.ensures.items so_far c.in_ok-first.field-0 c.in_ok-first.ensures
          w.in_default-2.is)
    ]

pub returns-clause-firsts : goal.returns-clause-firsts
returns-clause-firsts c = λ t ms goes is_cube.
    all_found (possible_space c.args.possible.now) ms t c.args.steps.now c.loop-walk.walks.items
    c.loop-walk.firsts.items (omega (arith, c.in_default-pop.ensures.cases.0))
    (c.loop-walk.invariant t ms goes is_cube)
