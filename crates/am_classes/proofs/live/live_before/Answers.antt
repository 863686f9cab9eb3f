use Rattle.std.proofs.Common.{◌≡◌, ◌++◌, ◌∷◌, [], Some, true, false, slice_get, take, get_or, sym, ap, ◌∙◌, lt-ltb, arith}
use Rattle.std.specs.List.{flat_map}
use Rattle.std.proofs.lemmas.List.{append-nil, take_all}
use Rattle.std.proofs.lemmas.Bool.{true≢false}
use Rattle.std.proofs.lemmas.Option.{same_Some, slice_get-get_or, slice_get_within}
use Rattle.std.proofs.lemmas.Grind.{common_steps}
use Rattle.am_scan.specs.Automaton.{is_lost, number_of}
use Rattle.am_classes.specs.Live.{live_at}
use Rattle.am_classes.proofs.LiveLemmas.{led, led_all, led_at, live_at_place, live_front, live_kept, live_lost, none}
use Rattle.am_classes.proofs.live.live_before.Goals as goal
use Rattle.am_classes.proofs.live.live_before.Goals.{In_default, Joined-not-is_lost, then-not-is_lost+in_ok-push, else-not-is_lost}

pub loop-pattern-preserved-in_default : goal.loop-pattern-preserved-in_default
loop-pattern-preserved-in_default c = λ text are.
    let live = c.args.live.now in
    let i = c.loop-pattern.pattern-index in
    let l = get_or live i none in
    let known = live_at_place c.args.automata.now text live i l are (slice_get-get_or live i none c.loop-pattern-test.true) in
    absurd (true≢false (sym (lt-ltb l.place _ (slice_get_within c.args.automata.now l.place known.0 known.1)) ∙ sym c.in_default.ensures.lookup.0))

pub loop-pattern-preserved : goal.loop-pattern-preserved
loop-pattern-preserved c = λ text are.
    let live = c.args.live.now in
    let automata = c.args.automata.now in
    let longer = c.args.byte ∷ text in
    let i = c.loop-pattern.pattern-index in
    let l = get_or live i none in
    let a = c.in-Some.automaton.now in
    let known = live_at_place automata text live i l are (slice_get-get_or live i none c.loop-pattern-test.true) in
    let item = c.in-Some.ensures.lookup in
    let at : slice_get automata l.place ≡ Some a = slice_get-get_or automata l.place a item.3.0 ∙ ap Some (sym item.1) in
    let number : l.number ≡ number_of a text =
    known.2 ∙ ap (λ s. number_of s text) (same_Some known.0 a (sym known.1 ∙ at)) in
    let next : c.step-number.result ≡ number_of a longer = c.step-number.ensures text number in
    let becomes : led automata longer l ≡ live_at l.place a (number_of a longer) = ap (λ o. led_at o l.place longer) at in
    let so_far = c.loop-pattern.invariant text are in
    elim c.if-not-is_lost.branch [
      | then-not-is_lost+in_ok-push w ↦
          let free : is_lost a (number_of a longer) ≡ false = grind (arith, common_steps) in
          ap (λ v. v.items) w.nexts-is ∙ w.in_ok-push.ensures.items
          ∙ (λ j. so_far j ++ record { place = l.place; number = next j } ∷ [])
          ∙ ap (λ ls. flat_map (led automata longer) (take i live) ++ ls) (sym (becomes ∙ live_kept l.place a _ free))
          ∙ sym (live_front (led automata longer) live i c.loop-pattern-test.true)
      | else-not-is_lost w ↦
          let lost : is_lost a (number_of a longer) ≡ true = grind (arith, common_steps) in
          ap (λ v. v.items) w.nexts-is ∙ so_far ∙ sym (append-nil (flat_map (led automata longer) (take i live)))
          ∙ ap (λ ls. flat_map (led automata longer) (take i live) ++ ls) (sym (becomes ∙ live_lost l.place a _ lost))
          ∙ sym (live_front (led automata longer) live i c.loop-pattern-test.true)
    ]

pub returns : goal.returns
returns c = λ text are.
    let live = c.args.live.now in
    c.loop-pattern.invariant text are
    ∙ ap (flat_map (led c.args.automata.now (c.args.byte ∷ text))) (take_all c.loop-pattern.pattern-index live c.loop-pattern-test.false)
    ∙ led_all c.args.automata.now live text c.args.byte are
