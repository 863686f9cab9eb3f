use Rattle.std.proofs.Common.{◌∙◌, length, sym, refl, arith}
use Rattle.am_labels.specs.BraceList.{is_closing_brace}
use Rattle.am_labels.proofs.BraceListLemmas.{find_at, find_none}
use Rattle.am_labels.proofs.brace_list.first_closing.Goals as goal

pub returns-then-is_outside-clause-index : goal.returns-then-is_outside-clause-index
returns-then-is_outside-clause-index c =
    let text = c.args.text.now in
    let is = c.is_outside.ensures text c.loop-i.i refl c.loop-i.invariant.state in
    sym (find_at (is_closing_brace text) 0 (length text) c.loop-i.i (omega arith) (omega arith)
    c.loop-i.invariant.none_before (sym is ∙ c.if-is_outside.true))

pub loop-i-init : goal.loop-i-init
loop-i-init c = record { state = c.start-state.ensures c.args.text.now; none_before = λ k h. absurd (omega arith) }

pub returns-clause-index : goal.returns-clause-index
returns-clause-index c = sym (find_none (is_closing_brace c.args.text.now) 0 (length c.args.text.now) (λ k h. c.loop-i.invariant.none_before k (omega arith)))
