use Rattle.std.proofs.Common.{not, ◌&&◌, ap, sym, ◌∙◌, arith}
use Rattle.am_judged_lists.specs.ListSetView.{has}
use Rattle.am_judged_lists.specs.CubeSetView.{contains}
use Rattle.am_judged_lists.proofs.CubeSetLemmas.{subset_where, passes_more, one_fails, part_of, in_part}
use Rattle.am_judged_lists.proofs.cube_set.CubeSet.is_within.Goals as goal

pub loop-i-preserved : goal.loop-i-preserved
loop-i-preserved c =
    passes_more (contains c.args.other.now) c.args.self.now c.loop-i.i c.without.result
    (λ k h. c.without.ensures.first k h
    ∙ ap (λ b. has (part_of c.args.self.now c.loop-i.i) k && not b) (sym (in_part c.args.other.now c.loop-i.i k h)))
    c.loop-i.invariant (c.is_empty.ensures.empty.0 c.if-not-is_empty.false)

pub returns-then-not-is_empty : goal.returns-then-not-is_empty
returns-then-not-is_empty c = record {
  within = sym (one_fails (contains c.args.other.now) c.args.self.now c.loop-i.i c.without.result
      (λ k h. c.without.ensures.first k h
      ∙ ap (λ b. has (part_of c.args.self.now c.loop-i.i) k && not b) (sym (in_part c.args.other.now c.loop-i.i k h)))
      c.loop-i-test.true
      (λ none. let apart = c.is_empty.ensures.empty.1 none in absurd (cc)));
}

pub returns : goal.returns
returns c = record {
  within = sym ((subset_where (contains c.args.self.now) (contains c.args.other.now)).1
      (λ k h there. c.loop-i.invariant k (omega (arith, h, c.loop-i-test.false)) there));
}
