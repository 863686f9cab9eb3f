use Rattle.std.proofs.Common.{List, length, ap, sym, subst, ◌∙◌, ◌/◌, inl, inr, arith}
use Rattle.std.proofs.lemmas.Bool.{cases_lt}
use Rattle.std.proofs.lemmas.Option.{slice_get_read}
use Rattle.am_judged_lists.specs.declared.list_set.TheConstants.{ROOM}
use Rattle.am_judged_lists.specs.Certainty.{passes}
use Rattle.am_judged_lists.specs.Cube.{MaskedLabels, verdict_at}
use Rattle.am_judged_lists.specs.BlockView.{IsSetOf, IsBlockOf}
use Rattle.am_judged_lists.specs.TableView.{part_at}
use Rattle.am_judged_lists.proofs.TableLemmas.{one_more_part, all_parts}
use Rattle.am_judged_lists.proofs.table.Table.passing.Goals as goal

pub passing-requires : goal.passing-requires
passing-requires c =
    let blocks = c.self.inside.blocks.items in
    let i = c.loop-i.i in
    let at = slice_get_read blocks (length blocks) i c.index.result.now (omega arith) (omega (arith, c.loop-i-test.true, c.min-i-end.ensures, c.len.ensures)) c.index.ensures in
    subst (λ (xs : List MaskedLabels). IsBlockOf xs c.index.result.now)
    (sym (c.part_at-cubes.ensures ∙ ap (λ xs. part_at xs i) c.deref.ensures.value)) (c.self.invariant.each i c.index.result.now at)

pub loop-i-preserved : goal.loop-i-preserved
loop-i-preserved c = λ k.
    let test = λ (cube : MaskedLabels). passes c.args.certainty (verdict_at cube c.args.prefix.now) in
    let i = c.loop-i.i in
    let same = c.part_at-cubes.ensures ∙ ap (λ xs. part_at xs i) (c.deref.ensures.value ∙ c.self.view_is) in
    c.put.ensures.put k
    ∙ one_more_part test c.args.self.now c.passing.result i k _
    (subst (λ (xs : List MaskedLabels). IsSetOf test xs c.passing.result) same c.passing.ensures) (c.loop-i.invariant k)

pub returns : goal.returns
returns c = record {
  passing = λ k h.
      let blocks = length c.self.inside.blocks.items in
      c.loop-i.invariant k
      ∙ all_parts (λ (cube : MaskedLabels). passes c.args.certainty (verdict_at cube c.args.prefix.now)) c.args.self.now blocks c.loop-i.i k
      (omega (arith, c.self.invariant.all, ap length c.self.view_is))
      (elim (cases_lt (k / ROOM) c.loop-i.i) [
        | inl low ↦ inl low
        | inr past ↦ inr (omega (arith, past, h, c.loop-i-test.false, c.min-i-end.ensures, c.len.ensures))
      ]);
}
