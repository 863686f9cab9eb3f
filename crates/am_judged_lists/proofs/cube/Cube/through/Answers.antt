use Rattle.std.proofs.Common.{◌<◌, false, List, map, nat_lt, refl, ap, sym, subst, ◌∙◌, arith}
use Rattle.std.specs.List.{list_all}
use Rattle.std.proofs.lemmas.List.{take_all}
use Rattle.am_judged_lists.specs.declared.cube.LabelMask.{LabelMask}
use Rattle.am_judged_lists.specs.Cube.{MaskedLabels, matches}
use Rattle.am_judged_lists.specs.CubeView.{AscendByLabel}
use Rattle.am_judged_lists.proofs.PairLemmas.{place_half}
use Rattle.am_judged_lists.proofs.SeenLemmas.{never_seen, label_within, lower_labels, moved, moved_lower, matches_moved}
use Rattle.am_judged_lists.proofs.cube.Cube.through.Goals as goal
use Rattle.am_judged_lists.proofs.cube.Cube.through.Goals.{After-m-item}
use Rattle.am_judged_lists.proofs.cube.Cube.through.Goals.{then-self-via-then-self, then-self-via-else-self+then-not-is_within}

-- the label of a mask is one of a side
low : (c : After-m-item) → c.m-item.result.label < c.args.labels
low c =
    label_within c.args.labels c.deref-m-items.result.now c.loop-m.m-index c.m-item.result
    (ap (list_all (λ k. nat_lt k.label c.args.labels)) (c.deref-m-items.ensures.value ∙ ap (λ v. v.masks) c.self.view_is)
    ∙ sym c.is_within.ensures ∙ c.if-not-is_within.false) c.loop-m-test.true c.m-item.is

pub place_of-requires : goal.place_of-requires
place_of-requires c = omega (arith, low (goal.at.place_of-requires c).After-m-item, c.requires)

pub push-requires-clause-label : goal.push-requires-clause-label
push-requires-clause-label c =
    let m = c.m-item.result in
    omega (arith, low (goal.at.push-requires-clause-label c).After-m-item, c.requires, c.place_of.ensures, place_half c.args.side c.args.shared.now m.label)

pub returns-then-self : goal.returns-then-self
returns-then-self c = λ e long. elim c.then-self.branch [
  | then-self-via-then-self w ↦
      let none = sym (ap (λ v. v.empty) c.self.view_is) ∙ w.if-self.true in rw (c.without_masks.ensures, none) refl
  | then-self-via-else-self+then-not-is_within w ↦ rw c.without_masks.ensures
      (sym (never_seen c.args.side c.args.shared.now c.args.labels e long c.args.self.now
      (sym w.is_within.ensures ∙ w.if-not-is_within.true)))
]

pub push-requires-clause-last : goal.push-requires-clause-last
push-requires-clause-last c =
    let m = c.m-item.result in
    let ascend = subst AscendByLabel (sym c.deref-m-items.ensures.value) c.self.invariant.ascend in
    rw (c.loop-m.invariant, c.place_of.ensures)
    (moved_lower c.args.side c.args.shared.now _ m (lower_labels c.deref-m-items.result.now c.loop-m.m-index m ascend c.loop-m-test.true c.m-item.is))

pub returns : goal.returns
returns c = λ e long.
    let cube = c.args.self.now in
    let cube_of : List LabelMask → MaskedLabels = λ ms. record { empty = false; masks = map (moved c.args.side c.args.shared.now) ms } in
    let same = c.deref-m-items.ensures.value ∙ ap (λ v. v.masks) c.self.view_is in
    let all = take_all c.loop-m.m-index c.deref-m-items.result.now c.loop-m-test.false ∙ same in
    ap (λ v. matches v e) (c.loop-m.invariant ∙ ap cube_of all)
    ∙ matches_moved c.args.side c.args.shared.now c.args.labels e long cube (sym (ap (λ v. v.empty) c.self.view_is) ∙ c.if-self.false)
    (sym c.is_within.ensures ∙ c.if-not-is_within.false)
