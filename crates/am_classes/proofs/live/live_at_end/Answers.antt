use Rattle.std.proofs.Common.{◌≡◌, ◌+◌, [], ◌++◌, ◌∷◌, true, false, length, take, arith, sym, ap, ◌∙◌}
use Rattle.std.proofs.lemmas.List.{append-nil, length-take}
use Rattle.std.proofs.lemmas.Grind.{common_steps}
use Rattle.am_scan.specs.Automaton.{is_lost, number_of}
use Rattle.am_scan.proofs.Places.{take_front}
use Rattle.am_classes.specs.Live.{live_at, live_of}
use Rattle.am_classes.proofs.LiveLemmas.{live_kept, live_lost, live_more}
use Rattle.am_classes.proofs.live.live_at_end.Goals as goal
use Rattle.am_classes.proofs.live.live_at_end.Goals.{then-not-is_lost+in_ok-push, else-not-is_lost}

pub loop-place-preserved : goal.loop-place-preserved
loop-place-preserved c =
    let automata = c.args.automata.now in
    let place = c.loop-place.place in
    let a = c.index-automata-place.result in
    let front = take place automata in
    let here : 0 + length front ≡ place = omega (arith, c.loop-place-test.true, length-take place automata) in
    let more : live_of (take (place + 1) automata) [] ≡ live_of front [] ++ live_at place a (number_of a []) =
    ap (λ xs. live_of xs []) (take_front automata place a c.loop-place-test.true c.index-automata-place.is)
    ∙ live_more 0 front a [] ∙ ap (λ p. live_of front [] ++ live_at p a (number_of a [])) here in
    elim c.if-not-is_lost.branch [
      | then-not-is_lost+in_ok-push w ↦
          let free : is_lost a (number_of a []) ≡ false = grind (arith, common_steps) in
          ap (λ v. v.items) w.live-is ∙ w.in_ok-push.ensures.items
          ∙ (λ i. c.loop-place.invariant i ++ record { place = place; number = c.end-number.ensures i } ∷ [])
          ∙ ap (λ ls. live_of front [] ++ ls) (sym (live_kept place a (number_of a []) free)) ∙ sym more
      | else-not-is_lost w ↦
          let lost : is_lost a (number_of a []) ≡ true = grind (arith, common_steps) in
          ap (λ v. v.items) w.live-is ∙ c.loop-place.invariant ∙ sym (append-nil (live_of front []))
          ∙ ap (λ ls. live_of front [] ++ ls) (sym (live_lost place a (number_of a []) lost)) ∙ sym more
    ]
