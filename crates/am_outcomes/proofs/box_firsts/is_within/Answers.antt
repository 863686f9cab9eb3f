use Rattle.std.proofs.Common.{◌≡◌, length, subst, arith}
use Rattle.std.proofs.lemmas.List.{length-map}
use Rattle.am_universe.specs.Universe.{Label, sizes}
use Rattle.am_outcomes.proofs.BoxLeast.{AreWithin, all_within}
use Rattle.am_outcomes.proofs.box_firsts.is_within.Goals as goal

pub returns : goal.returns
returns c = λ yes.
    let ns = sizes c.args.universe.now in
    let labels = length-map c.args.universe.now (λ (l : Label). length l.values) in
    let all : c.loop-label.label ≡ length ns =
    omega (
      arith,
      labels,
      c.loop-label-test.false,
      c.loop-label.auto.label-end,
      c.len-label-end.ensures.len,
    ) in
    all_within ns c.args.inner.now c.args.outer.now c.requires
    (subst (AreWithin ns c.args.inner.now c.args.outer.now) all c.loop-label.invariant)
    (omega (arith, labels, c.len.ensures, c.len-2.ensures.len, c.if-len.false))
