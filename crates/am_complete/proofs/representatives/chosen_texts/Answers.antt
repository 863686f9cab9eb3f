use Rattle.std.proofs.Common.{◌≡◌, ◌+◌, ◌++◌, ◌∷◌, [], map, take, string_bytes, sym, ap, ◌∙◌}
use Rattle.std.proofs.Common.{subst, List}
use Rattle.std.proofs.lemmas.List.{map-append}
use Rattle.std.proofs.lemmas.Slice.Zip.{all_zipped_more}
use Rattle.am_classes.specs.declared.tested.Tested.{Tested}
use Rattle.am_complete.specs.Chosen.{IsChosen, AreChosenEach}
use Rattle.am_complete.proofs.LabelStates.{stands_at}
use Rattle.am_complete.proofs.Pushed.{one_longer}
use Rattle.am_complete.proofs.representatives.chosen_texts.Goals as goal

pub loop-text-preserved : goal.loop-text-preserved
loop-text-preserved c =
    let usual = c.args.usual.now in
    let wanted = c.args.wanted.now in
    let i = c.loop-text.text-index in
    let w = c.text-item.result in
    let copy = c.in_ok-from_str.field-0 in
    let at = stands_at wanted i w c.loop-text-test.true c.text-item.is in
    let chosen : IsChosen usual w (string_bytes copy) =
    subst (IsChosen usual w) (sym c.in_ok-from_str.ensures.ok) c.chosen_text-like.ensures in
    let before = map string_bytes c.loop-text.chosen.items in
    let texts : map string_bytes c.push.new.self.items ≡ before ++ string_bytes copy ∷ [] =
    ap (map string_bytes) c.in_ok-push.ensures.items
    ∙ map-append string_bytes c.loop-text.chosen.items (copy ∷ []) in
    subst (AreChosenEach usual (take (i + 1) wanted)) (sym texts)
    (subst (λ (ws : List Tested). AreChosenEach usual ws (before ++ string_bytes copy ∷ []))
    (one_longer wanted i w at)
    (all_zipped_more (IsChosen usual) (take i wanted) before w (string_bytes copy)
    c.loop-text.invariant chosen))
