use Rattle.std.proofs.Common.{◌<◌, length, sym, subst, slice_index, arith, inl, inr}
use Rattle.std.proofs.lemmas.Bool.{false_from_ne_true, cases_lt}
use Rattle.std.proofs.lemmas.List.{length-map}
use Rattle.std.proofs.lemmas.Option.{get_or_from_slice_get}
use Rattle.am_universe.specs.Universe.{Label, sizes}
use Rattle.am_universe.proofs.WholeChoiceLemmas.{admitted_at, admits_at_most, admits_each}
use Rattle.am_universe.proofs.universe.Universe.admits.Goals as goal

pub returns-then-len : goal.returns-then-len
returns-then-len c = record {
  admitted =
      let u = c.args.self.now in
      sym (false_from_ne_true _ (λ a. omega (arith, admits_at_most (sizes u) c.args.choice.now a, length-map u (λ (l : Label). length l.values))));
}

pub returns-then-from-size : goal.returns-then-from-size
returns-then-from-size c = record {
  admitted =
      let u = c.args.self.now in
      let size = get_or_from_slice_get (sizes u) c.loop-i.i c.size.result 0 c.size.ensures.size in
      sym (false_from_ne_true _ (λ a. omega (arith, admitted_at (sizes u) c.args.choice.now c.loop-i.i a (omega arith), size)));
}

pub loop-i-preserved : goal.loop-i-preserved
loop-i-preserved c = λ k below.
    let u = c.args.self.now in
    let size = get_or_from_slice_get (sizes u) c.loop-i.i c.size.result 0 c.size.ensures.size in
    let here : slice_index c.args.choice.now c.loop-i.i < slice_index (sizes u) c.loop-i.i = omega (arith, size) in
    elim (cases_lt k c.loop-i.i) [
      | inl before ↦ c.loop-i.invariant k before
      | inr late ↦ subst (λ n. slice_index c.args.choice.now n < slice_index (sizes u) n) (omega arith) here
    ]

pub returns : goal.returns
returns c = record {
  admitted =
      let u = c.args.self.now in
      sym (admits_each (sizes u) c.args.choice.now (omega (arith, length-map u (λ (l : Label). length l.values))) (λ k h. c.loop-i.invariant k (omega arith)));
}
