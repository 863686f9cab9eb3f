-- One more byte, in a class of its own if it is a symbol.
use Rattle.std.proofs.Common.{◌≡◌, ◌∷◌, [], ◌++◌, length, Some, slice_get, slice_index, refl, sym, subst, ap, ◌∙◌, inl, inr, arith}
use Rattle.std.proofs.lemmas.Bool.{cases_lt}
use Rattle.std.proofs.lemmas.List.{get_or_past, length_push}
use Rattle.am_scan.proofs.Places.{get_last, grows_pushed}
use Rattle.am_scan.proofs.WildcardLemmas.{alike, one_class_more}
use Rattle.am_scan.proofs.wildcard_alphabet.Alphabet.of.Goals as goal
use Rattle.am_scan.proofs.wildcard_alphabet.Alphabet.of.Goals.{then-is_symbol+in_ok-push+in_ok-push-2, else-is_symbol+in_ok-push-3}

pub loop-byte-preserved : goal.loop-byte-preserved
loop-byte-preserved c =
    let ps = c.args.places.now in
    let h = c.loop-byte.invariant in
    let symbols = c.loop-byte.symbols.items in
    let classes = c.loop-byte.classes.items in
    let byte = c.loop-byte.byte in
    let all = c.if-is_symbol.symbols.items in
    elim c.if-is_symbol.branch [
      | then-is_symbol+in_ok-push+in_ok-push-2 w ↦
          (let added : all ≡ symbols ++ byte ∷ [] = ap (λ v. v.items) w.symbols-is ∙ w.in_ok-push-2.ensures.items in
          let last : w.len.result ≡ length symbols = omega (arith, w.len.ensures, c.loop-byte.symbols.ok.0) in
          one_class_more ps symbols all classes _ w.len.result byte byte h (grows_pushed symbols all byte added) (omega (arith, ap length added, length_push symbols byte))
          (ap (λ v. v.items) w.classes-is ∙ w.in_ok-push.ensures.items) (rw (added, last) (get_last symbols byte)) (λ text. refl))
      | else-is_symbol+in_ok-push-3 w ↦
          (let kept : symbols ≡ all = sym (ap (λ v. v.items) w.symbols-is) in
          one_class_more ps symbols all classes _ 0 255 byte h (λ k x at. subst (λ xs. slice_get xs k ≡ Some x) kept at) (omega (arith, ap length kept))
          (ap (λ v. v.items) w.classes-is ∙ w.in_ok-push-3.ensures.items) (subst (λ xs. slice_get xs 0 ≡ Some 255) kept h.first)
          (alike ps byte 255 (sym c.is_symbol.ensures ∙ w.if-is_symbol.false) (c.requires 255 (omega arith))))
    ]

pub returns-clause-classes : goal.returns-clause-classes
returns-clause-classes c = λ b.
    let h = c.loop-byte.invariant in
    let classes = c.loop-byte.classes.items in
    elim (cases_lt b 128) [
      | inl below ↦ h.each b (omega (arith, c.loop-byte-test.false))
      | inr above ↦
          (let past : slice_index classes b ≡ 0 = get_or_past classes b 0 (omega (arith, h.count, c.loop-byte.auto.byte-end)) in
          (255, subst (λ k. slice_get c.loop-byte.symbols.items k ≡ Some 255) (sym past) h.first, alike c.args.places.now b 255 (c.requires b above) (c.requires 255 (omega arith))))
    ]
