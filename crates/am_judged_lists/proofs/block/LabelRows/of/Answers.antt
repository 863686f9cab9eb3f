use Rattle.std.proofs.Common.{◌≡◌, ℕ, ◌+◌, ◌<◌, Bool, true, false, not, ◌&&◌, ◌||◌, nat_eq, nat_lt, length, get_or, sym, ap, ◌∙◌, arith}
use Rattle.std.proofs.lemmas.Bool.{lt-ltb}
use Rattle.std.proofs.lemmas.Bool.Decides.{nat_tests}
use Rattle.std.proofs.lemmas.Option.{slice_get_within, get_or_from_slice_get}
use Rattle.std.specs.declared.alloc.Global.{Global}
use Rattle.std.specs.declared.vec.Vec.{Vec}
use Rattle.am_judged_lists.specs.declared.list_set.ListSet.{ListSet}
use Rattle.am_judged_lists.specs.declared.list_set.TheConstants.{ROOM}
use Rattle.am_judged_lists.specs.Cube.{MaskedLabels, permits_position}
use Rattle.am_judged_lists.proofs.block.LabelRows.of.Goals as goal
use Rattle.am_judged_lists.proofs.block.LabelRows.of.Goals.{in-Some, in_default}

one_more : (i k : ℕ) (permits masked : Bool) → (i ≡ k → masked ≡ permits)
    → ((not (nat_lt i k) || permits) && (not (nat_eq i k) || masked)) ≡ (not (nat_lt i (k + 1)) || permits)
one_more i k permits masked same = grind (arith, nat_tests, same)

no_mask : (i k : ℕ) (permits : Bool) → (i ≡ k → permits ≡ true)
    → (not (nat_lt i k) || permits) ≡ (not (nat_lt i (k + 1)) || permits)
no_mask i k permits all = grind (arith, nat_tests, all)

pub loop-k-preserved : goal.loop-k-preserved
loop-k-preserved c = λ i cube position at within.
    let cubes = c.args.cubes.now in
    let k = c.loop-k.k in
    let here = c.index-cubes-k.result in
    let permits = λ (x : MaskedLabels). permits_position x c.args.label position in
    let room : i < ROOM = omega (arith, slice_get_within cubes i cube at, c.requires) in
    let is : i ≡ k → here ≡ cube =
    λ same. c.index-cubes-k.is ∙ ap (λ n. get_or cubes n here) (sym same) ∙ get_or_from_slice_get cubes i cube here at in
    elim c.match-mask_of.branch [
      | in-Some w ↦
          let so_far : position < length c.loop-k.rows.items = omega (arith, w.take_out.ensures.count, ap (λ (v : Vec ListSet Global). length v.items) w.rows-is, within) in
          rw w.rows-is
          (w.take_out.ensures.taken position i room so_far
          ∙ ap (λ b. b && (not (nat_eq i k) || get_or w.in-Some.mask.now position false)) (c.loop-k.invariant i cube position at so_far)
          ∙ one_more i k (permits cube) (get_or w.in-Some.mask.now position false)
          (λ same. sym (w.in-Some.ensures.some position) ∙ ap permits (is same)))
      | in_default w ↦
          let so_far : position < length c.loop-k.rows.items = omega (arith, ap (λ (v : Vec ListSet Global). length v.items) w.rows-is, within) in
          rw w.rows-is
          (c.loop-k.invariant i cube position at so_far
          ∙ no_mask i k (permits cube) (λ same. ap permits (sym (is same)) ∙ w.in_default.ensures.none position))
    ]

pub returns-clause-rows : goal.returns-clause-rows
returns-clause-rows c = λ k cube at position within.
    c.loop-k.invariant k cube position at within
    ∙ ap (λ b. not b || permits_position cube c.args.label position)
    (lt-ltb k c.loop-k.k (omega (arith, slice_get_within c.args.cubes.now k cube at, c.loop-k-test.false)))
