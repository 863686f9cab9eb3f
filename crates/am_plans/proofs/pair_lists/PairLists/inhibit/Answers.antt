use Rattle.std.proofs.Common.{◌≡◌, ◌≤◌, length, slice_get, inl, inr, sym, ap, ◌∙◌, arith}
use Rattle.std.proofs.lemmas.Option.{slice_get_read}
use Rattle.am_plans.specs.PairsByLists.{side_fails}
use Rattle.am_plans.proofs.PairSteps.{this_pair, no_pair_more, no_pair_to_end}
use Rattle.am_plans.proofs.pair_lists.PairLists.inhibit.Goals as goal

pub returns-then-i-len : goal.returns-then-i-len
returns-then-i-len c =
    let out : length c.args.self.now.sides.items ≤ c.in-Some.i =
    omega (arith, c.if-i-len.true, c.len.ensures) in
    record {
      inhibited = sym (no_pair_to_end _ _ _ _ c.loop-i.from c.in-Some.i c.loop-i.invariant
          c.in-Some.ensures.some.before (inr out));
    }

pub returns-then-side_fails : goal.returns-then-side_fails
returns-then-side_fails c =
    let sides = c.args.self.now.sides.items in
    let side = c.index.result.now in
    let next = c.in-Some.ensures.some in
    let count : c.len.result ≡ length sides = omega (arith, c.len.ensures) in
    let here = slice_get_read sides c.len.result c.in-Some.i side count c.if-i-len.false
    c.index.ensures in
    let fail = ap (λ sources. side_fails c.args.prefix.now c.args.certainty
    sources side) (sym c.deref.ensures.value) ∙ sym c.side_fails.ensures ∙ c.if-side_fails.true in
    record {
      inhibited = sym (this_pair _ _ _ sides c.in-Some.i side next.within next.found here fail);
    }

pub loop-i-preserved : goal.loop-i-preserved
loop-i-preserved c =
    let sides = c.args.self.now.sides.items in
    let side = c.index.result.now in
    let count : c.len.result ≡ length sides = omega (arith, c.len.ensures) in
    let here = slice_get_read sides c.len.result c.in-Some.i side count c.if-i-len.false
    c.index.ensures in
    let spared = ap (λ sources. side_fails c.args.prefix.now
    c.args.certainty sources side) (sym c.deref.ensures.value) ∙ sym c.side_fails.ensures
    ∙ c.if-side_fails.false in
    no_pair_more _ _ _ sides c.loop-i.from c.in-Some.i c.behind_same-from.result side
    c.loop-i.invariant c.in-Some.ensures.some.before here spared
    (λ j x y low high at with. c.behind_same-from.ensures.same j x y low high
    (ap (λ sides. slice_get sides c.in-Some.i) c.deref-in-Some.ensures.value ∙ at)
    (ap (λ sides. slice_get sides j) c.deref-in-Some.ensures.value ∙ with))

pub returns : goal.returns
returns c =
    let cubes = c.args.self.now.lists in
    let all : length cubes ≤ length cubes = omega arith in
    record {
      inhibited = sym (no_pair_to_end _ _ cubes _ c.loop-i.from (length cubes) c.loop-i.invariant
          c.in_default.ensures.none (inl all));
    }
