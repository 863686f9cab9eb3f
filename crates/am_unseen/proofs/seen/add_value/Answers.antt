-- The value of a label set that has the label.
use Rattle.std.proofs.Common.{◌≡◌, ◌==◌, List, ℕ, Bor, length, map, not, true, refl, sym, ap, ◌∙◌}
use Rattle.am_complete.specs.FoundState.{begins}
use Rattle.am_complete.proofs.LabelStates.{empty_begins}
use Rattle.am_universe.specs.LabelSet.{value_of}
use Rattle.am_report_texts.specs.EachOnce.{with_text}
use Rattle.am_unseen.specs.Search.{texts_of}
use Rattle.am_unseen.proofs.SeenValues.{texts_inserted}
use Rattle.am_unseen.proofs.seen.add_value.Goals as goal

pub returns-in_ok-insert : goal.returns-in_ok-insert
returns-in_ok-insert c =
    let text = value_of c.args.set.now c.args.name.now in
    let before = c.args.values.now in
    let some : begins text ≡ true =
    sym (empty_begins text) ∙ ap (λ t. not (length t == 0)) (sym c.get-value.ensures.value)
    ∙ ap not (sym c.is_empty.ensures) ∙ ap not c.if-not-is_empty.true in
    rw some (ap (map (λ (t : Bor (List ℕ)). t.now)) c.in_ok-insert.ensures.keys
    ∙ texts_inserted _ (λ x y. refl) before.keys c.get-value.result
    ∙ ap (with_text (texts_of before)) c.get-value.ensures.value)
