use Rattle.std.proofs.Common.{◌≡◌, ◌∙◌, [], ◌∷◌, ◌++◌, Some, true, length, slice_get, inl, inr}
use Rattle.std.proofs.Common.{sym, ap, subst, arith}
use Rattle.std.proofs.lemmas.Bool.{cases_lt, false≢true}
use Rattle.am_scan.specs.Sight.{is_scanned}
use Rattle.am_scan.proofs.Places.{get_last, grows_pushed}
use Rattle.am_classes.specs.Exploration.{HasByte, byte_at}
use Rattle.am_classes.proofs.ExplorationLemmas.{place_of_byte}
use Rattle.am_classes.proofs.exploration.bytes_in_order.Goals as goal
use Rattle.am_classes.proofs.exploration.bytes_in_order.Goals.{then-has+in_ok-push, else-has}

pub loop-place-preserved : goal.loop-place-preserved
loop-place-preserved c = λ place below scanned.
    let bytes = c.args.bytes.now in
    let old = c.loop-place.order.items in
    let new = c.if-has.order.items in
    let byte = c.byte_at-byte.result in
    elim c.if-has.branch [
      | then-has+in_ok-push w ↦
          let more : new ≡ old ++ byte ∷ [] =
          ap (λ v. v.items) w.order-is ∙ w.in_ok-push.ensures.items in
          elim (cases_lt place c.loop-place.place) [
            | inl before ↦
                let has = c.loop-place.invariant place before scanned in
                (has.0, grows_pushed old new byte more has.0 (byte_at place) has.1)
            | inr last ↦
                let same : c.loop-place.place ≡ place = omega (arith, below, last) in (
                  length old,
                  ap (λ xs. slice_get xs (length old)) more ∙ get_last old byte
                      ∙ ap Some (c.byte_at-byte.ensures ∙ ap byte_at same),
                )
          ]
      | else-has w ↦ elim (cases_lt place c.loop-place.place) [
        | inl before ↦
            subst (λ v. HasByte v.items (byte_at place)) (sym w.order-is)
            (c.loop-place.invariant place before scanned)
        | inr last ↦
            let same : c.loop-place.place ≡ place = omega (arith, below, last) in
            let here = c.byte_at-byte.ensures ∙ ap byte_at same in
            absurd (false≢true (sym w.if-has.false ∙ c.has.ensures
            ∙ ap (is_scanned bytes) here ∙ scanned))
      ]
    ]

pub returns : goal.returns
returns c = λ byte small scanned.
    let at = place_of_byte byte small in
    subst (HasByte c.loop-place.order.items) at.2
    (c.loop-place.invariant at.0 (omega (arith, at.1, c.loop-place-test.false))
    (subst (λ b. is_scanned c.args.bytes.now b ≡ true) (sym at.2) scanned))
