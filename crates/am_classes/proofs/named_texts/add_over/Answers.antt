use Rattle.std.proofs.Common.{◌≡◌, ◌+◌, ◌++◌, ◌∷◌, [], ℕ, List, Bor, get_or, map, take, filter}
use Rattle.std.proofs.Common.{append_assoc, refl, sym, ap, ◌∙◌, subst, arith}
use Rattle.std.proofs.lemmas.List.{append-nil}
use Rattle.std.proofs.lemmas.List.Elements.{filter-append}
use Rattle.std.proofs.lemmas.Option.{get_or_from_slice_get, slice_get-get_or}
use Rattle.am_scan.proofs.Places.{map_front}
use Rattle.am_classes.specs.Alphabet.{is_over}
use Rattle.am_classes.specs.Named.{AreEachOnce}
use Rattle.am_classes.proofs.named_texts.add_over.Goals as goal
use Rattle.am_classes.proofs.named_texts.add_over.Goals.{then-has+in_ok-add, else-has}

pub loop-text-preserved : goal.loop-text-preserved
loop-text-preserved c = λ wanted old.
    let now : Bor (List ℕ) → List ℕ = λ t. t.now in
    let over = is_over c.args.alphabet in
    let named = c.args.named.now in
    let i = c.loop-text.text-index in
    let x = get_or named i (record { ref_ptr = (0, 0); now = [] }) in
    let front = map now (take i named) in
    let more : filter over (map now (take (i + 1) named)) ≡ filter over front ++ filter over (x.now ∷ []) =
    ap (filter over) (map_front now named i x (omega arith) (sym (get_or_from_slice_get named i x x
    (slice_get-get_or named i (record { ref_ptr = (0, 0); now = [] }) (omega arith)))))
    ∙ filter-append over front (x.now ∷ []) in
    elim c.if-has.branch [
      | then-has+in_ok-add w ↦
          let kept : filter over (x.now ∷ []) ≡ x.now ∷ [] =
          rw (sym c.has.ensures.over ∙ w.if-has.true) refl in
          subst (λ s. AreEachOnce (wanted ++ filter over (map now (take (i + 1) named))) (map now s.keys))
          (sym w.texts-is)
          (subst (λ ws. AreEachOnce ws (map now w.add.new.texts.keys))
          (append_assoc wanted (filter over front) (x.now ∷ [])
          ∙ ap (λ fs. wanted ++ fs) (sym (more ∙ ap (λ k. filter over front ++ k) kept)))
          (w.in_ok-add.ensures (wanted ++ filter over front) (c.loop-text.invariant wanted old)))
      | else-has w ↦
          let kept : filter over (x.now ∷ []) ≡ [] = rw (sym c.has.ensures.over ∙ w.if-has.false) refl in
          subst (λ s. AreEachOnce (wanted ++ filter over (map now (take (i + 1) named))) (map now s.keys))
          (sym w.texts-is)
          (subst (λ ws. AreEachOnce ws (map now c.loop-text.texts.keys))
          (ap (λ fs. wanted ++ fs) (sym (more ∙ ap (λ k. filter over front ++ k) kept ∙ append-nil (filter over front))))
          (c.loop-text.invariant wanted old))
    ]
