use Rattle.std.proofs.Common.{List, ap, subst, ◌∙◌, arith}
use Rattle.am_judged_lists.specs.declared.list_set.TheConstants.{ROOM}
use Rattle.am_judged_lists.specs.Certainty.{passes}
use Rattle.am_judged_lists.specs.Cube.{MaskedLabels, verdict_at}
use Rattle.am_judged_lists.specs.BlockView.{IsSetOf}
use Rattle.am_judged_lists.specs.TableView.{part_at}
use Rattle.am_judged_lists.proofs.TableLemmas.{none_more, is_next}
use Rattle.am_judged_lists.proofs.table.Table.next.Goals as goal

pub returns-in-Some-clause-some : goal.returns-in-Some-clause-some
returns-in-Some-clause-some c =
    let test = λ (cube : MaskedLabels). passes c.args.certainty (verdict_at cube c.args.prefix.now) in
    let i = c.loop-i.i in
    let same = c.part_at.ensures ∙ ap (λ xs. part_at xs i) (c.deref.ensures.value ∙ c.self.view_is) in
    let of = subst (λ (xs : List MaskedLabels). IsSetOf test xs c.passing-set.result) same c.passing-set.ensures in
    is_next test c.args.self.now c.passing-set.result i c.args.from c.in-Some.place of c.in-Some.ensures.some.1 c.in-Some.ensures.found
    (omega (arith, c.in-Some.ensures.some, c.max.ensures))
    (none_more test c.args.self.now c.passing-set.result i c.args.from c.in-Some.place of (omega (arith, c.in-Some.ensures.some))
    c.loop-i.invariant.1 (λ k low high. c.in-Some.ensures.before k (omega (arith, low, c.max.ensures)) high))

pub loop-i-preserved : goal.loop-i-preserved
loop-i-preserved c =
    let test = λ (cube : MaskedLabels). passes c.args.certainty (verdict_at cube c.args.prefix.now) in
    let i = c.loop-i.i in
    let same = c.part_at.ensures ∙ ap (λ xs. part_at xs i) (c.deref.ensures.value ∙ c.self.view_is) in
    let of = subst (λ (xs : List MaskedLabels). IsSetOf test xs c.passing-set.result) same c.passing-set.ensures in (
      omega (arith, c.loop-i.invariant.0),
      λ j x low high. none_more test c.args.self.now c.passing-set.result i c.args.from ROOM of (omega arith) c.loop-i.invariant.1
          (λ k from_here below. c.in_default.ensures.none k (omega (arith, from_here, c.max.ensures)) below) j x low (omega (arith, high)),
    )
