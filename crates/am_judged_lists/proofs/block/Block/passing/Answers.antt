use Rattle.std.proofs.Common.{◌≡◌, false, length, take, refl, sym, ap, ◌∙◌, inl, inr, arith}
use Rattle.std.specs.Prelude.{slice_get}
use Rattle.std.proofs.lemmas.Bool.{cases_lt}
use Rattle.std.proofs.lemmas.List.{take_all}
use Rattle.std.proofs.lemmas.Option.{slice_get_read, slice_get_past}
use Rattle.am_judged_lists.specs.declared.list_set.TheConstants.{ROOM}
use Rattle.am_judged_lists.specs.Places.{passes_if_there, is_at}
use Rattle.am_judged_lists.proofs.BlockLemmas.{fits_first, none_later, narrowed, all_fit}
use Rattle.am_judged_lists.proofs.block.Block.passing.Goals as goal

pub returns-then-is_empty : goal.returns-then-is_empty
returns-then-is_empty c = λ k.
    let labels = c.args.self.now.labels.items in
    let none : is_at (fits_first c.args.certainty c.args.prefix.now (take c.loop-rows.rows-index labels)) c.args.cubes.now k ≡ false =
    elim (cases_lt k ROOM) [
      | inl low ↦ sym (c.loop-rows.invariant k) ∙ c.is_empty.ensures.empty.0 c.if-is_empty.true k low
      | inr past ↦ ap (passes_if_there (fits_first c.args.certainty c.args.prefix.now (take c.loop-rows.rows-index labels)))
          (slice_get_past c.args.cubes.now k (omega (arith, past, c.requires.few)))
    ] in
    c.loop-rows.invariant k ∙ none
    ∙ sym (none_later c.args.certainty c.args.prefix.now c.args.cubes.now labels k c.loop-rows.rows-index none)
    ∙ all_fit c.args.certainty c.args.prefix.now c.args.cubes.now c.args.self.now k c.requires
    (omega (arith, c.in-Some.ensures.within, c.len.ensures.len))

pub loop-rows-preserved : goal.loop-rows-preserved
loop-rows-preserved c = λ k.
    let items = c.deref-rows-items.result.now in
    let at = slice_get_read items _ c.loop-rows.rows-index c.rows-item.result refl c.loop-rows-test.true c.rows-item.is in
    narrowed c.args.certainty c.args.prefix.now c.args.cubes.now c.args.self.now c.loop-rows.rows-index c.rows-item.result k
    c.loop-rows.left c.in-Some-narrow.next c.requires
    (ap (λ xs. slice_get xs c.loop-rows.rows-index) (sym c.deref-rows-items.ensures.value) ∙ at)
    (c.loop-rows.invariant k) c.in-Some-narrow.ensures.permitting c.in-Some-narrow.ensures.fewer

pub returns : goal.returns
returns c = λ k.
    let labels = c.args.self.now.labels.items in
    c.loop-rows.invariant k
    ∙ ap (λ rows. is_at (fits_first c.args.certainty c.args.prefix.now rows) c.args.cubes.now k)
    (take_all c.loop-rows.rows-index labels (omega (arith, c.loop-rows-test.false, ap length c.deref-rows-items.ensures.value)))
    ∙ all_fit c.args.certainty c.args.prefix.now c.args.cubes.now c.args.self.now k c.requires
    (omega (arith, c.in-Some.ensures.within, c.len.ensures.len))
