-- One more label in `equal`, which the alert lacks or has.
use Rattle.std.proofs.Common.{◌≡◌, ◌==◌, Some, length, ap, sym, ◌∙◌}
use Rattle.std.specs.Prelude.{slice_get, string_bytes}
use Rattle.am_universe.specs.LabelSet.{value_of}
use Rattle.am_report_texts.specs.EachOnce.{with_text}
use Rattle.am_report_texts.proofs.PieceSteps.{item_here}
use Rattle.am_firing.specs.Deciding.{texts_of}
use Rattle.am_firing.specs.Wide.{lacks}
use Rattle.am_firing.proofs.Lacked.{lacks_one, lacks_none, got_map}
use Rattle.am_firing.proofs.wide.lacked_names.Goals as goal
use Rattle.am_firing.proofs.wide.lacked_names.Goals.{then-is_empty+in_ok-push_new, else-is_empty}

pub loop-name-preserved : goal.loop-name-preserved
loop-name-preserved c =
    let alert = c.args.alert.now in
    let names = c.args.rule.now.equal in
    let listed = c.equal-name-items.result.now in
    let i = c.loop-name.name-index in
    let name = string_bytes c.name-item.result in
    let at : slice_get names i ≡ Some name =
    ap (λ ns. slice_get ns i) (sym c.equal-name-items.ensures.equal)
    ∙ got_map string_bytes listed i c.name-item.result
    (item_here listed i c.name-item.result c.loop-name-test.true c.name-item.is) in
    let tested : lacks alert name ≡ c.is_empty.result =
    ap (λ n. length (value_of alert n) == 0) (sym c.deref.ensures)
    ∙ ap (λ v. length v == 0) (sym c.get.ensures.value) ∙ sym c.is_empty.ensures in
    elim c.if-is_empty.branch [
      | then-is_empty+in_ok-push_new w ↦
          lacks_one (lacks alert) names i name at (texts_of c.loop-name.names) (texts_of c.if-is_empty.names)
          (tested ∙ w.if-is_empty.true) c.loop-name.invariant
          (ap texts_of w.names-is ∙ w.in_ok-push_new.ensures.texts
          ∙ ap (with_text (texts_of c.loop-name.names)) w.deref-then-is_empty.ensures)
      | else-is_empty w ↦
          lacks_none (lacks alert) names i name at (texts_of c.loop-name.names) (texts_of c.if-is_empty.names)
          (tested ∙ w.if-is_empty.false) c.loop-name.invariant (ap texts_of w.names-is)
    ]
