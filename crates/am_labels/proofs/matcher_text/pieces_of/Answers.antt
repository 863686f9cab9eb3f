use Rattle.std.proofs.Common.{◌≡◌, ◌<◌, ◌∙◌, refl, sym, ap, arith, true, false, get_or, length}
use Rattle.std.proofs.lemmas.Grind.{common_steps}
use Rattle.std.proofs.lemmas.List.{append-nil, map-append}
use Rattle.std.proofs.lemmas.Str.{IsCharBoundary-start, IsCharBoundary-after_ascii}
use Rattle.am_labels.specs.MatcherText.{is_separator, is_blank}
use Rattle.am_labels.proofs.MatcherTextPieces.{cuts_all, left_past, told_at_cut, told_at_end}
use Rattle.am_labels.proofs.matcher_text.pieces_of.Goals as goal
use Rattle.am_labels.proofs.matcher_text.pieces_of.Goals.{then-is_outside+in_ok-push, else-is_outside}
use Rattle.am_labels.proofs.matcher_text.pieces_of.Goals.{then-not-is_blank+in_ok-push-2, else-not-is_blank}

pub loop-i-init : goal.loop-i-init
loop-i-init c = record {
  state = c.start-state.ensures c.args.text.now;
  behind = omega arith;
  boundary = IsCharBoundary-start c.args.text.now c.utf8.text;
  told = rw (c.new-pieces.ensures.items, cuts_all c.args.text.now) refl;
}

pub loop-i-preserved : goal.loop-i-preserved
loop-i-preserved c =
    let text = c.args.text.now in
    let i = c.loop-i.i in
    let inside : i < length text = grind (arith, common_steps) in
    let at = ap (λ bytes. get_or bytes i 0) (sym c.as_bytes-byte-items.ensures.value) in
    let outside = c.is_outside.ensures text i at c.loop-i.invariant.state in
    let state = c.next-state.ensures text i inside at c.loop-i.invariant.state in
    elim c.if-is_outside.branch [
      | then-is_outside+in_ok-push w ↦
          let cut : is_separator text i ≡ true = sym outside ∙ w.if-is_outside.true in
          let small : get_or text i 0 < 128 = grind (arith, common_steps) in
          rw (w.pieces-is, w.start-is) (record {
            state = state;
            behind = omega arith;
            boundary = IsCharBoundary-after_ascii text i c.utf8.text inside small;
            told = rw (w.in_ok-push.ensures.items, map-append, w.range.ensures.value)
                (told_at_cut text c.loop-i.start i _ _ inside cut c.loop-i.invariant.told);
          })
      | else-is_outside w ↦
          let whole : is_separator text i ≡ false = sym outside ∙ w.if-is_outside.false in
          rw (w.pieces-is, w.start-is) (record {
            state = state;
            behind = omega (arith, c.loop-i.invariant.behind);
            boundary = c.loop-i.invariant.boundary;
            told = rw (← left_past text c.loop-i.start i inside whole) c.loop-i.invariant.told;
          })
    ]

pub returns : goal.returns
returns c =
    let last = c.range_from-last.result.now in
    let end = told_at_end c.args.text.now c.loop-i.start c.loop-i.i last _ _
    (grind (arith, common_steps)) c.range_from-last.ensures.value c.loop-i.invariant.told in
    elim c.if-not-is_blank.branch [
      | then-not-is_blank+in_ok-push-2 w ↦
          let some : is_blank last ≡ false = grind (arith, common_steps) in
          let end' = rw some at end in
          rw (w.pieces-is, w.in_ok-push-2.ensures.items, map-append) end'
      | else-not-is_blank w ↦
          let none : is_blank last ≡ true = grind (arith, common_steps) in
          let end' = rw (none, append-nil) at end in
          rw w.pieces-is end'
    ]
