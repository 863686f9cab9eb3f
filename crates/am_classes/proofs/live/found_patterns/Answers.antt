use Rattle.std.proofs.Common.{◌≡◌, ◌++◌, ◌∷◌, [], Some, if◌then◌else◌, slice_get, take, get_or, refl, sym, ap, ◌∙◌, lt-ltb}
use Rattle.std.specs.List.{flat_map}
use Rattle.std.proofs.lemmas.List.{append-nil, take_all}
use Rattle.std.proofs.lemmas.Bool.{true≢false}
use Rattle.std.proofs.lemmas.Option.{same_Some, slice_get-get_or, slice_get_within}
use Rattle.am_labels.specs.Pattern.{finds}
use Rattle.am_scan.specs.Automaton.{number_of, pattern_of}
use Rattle.am_universe.proofs.ListLemmas.{AllByRecursion-at}
use Rattle.am_universe.proofs.Members.{in_at}
use Rattle.am_classes.proofs.LiveLemmas.{found_all, found_at, found_live, live_at_place, live_front, none}
use Rattle.am_classes.proofs.live.found_patterns.Goals as goal
use Rattle.am_classes.proofs.live.found_patterns.Goals.{then-finds+in_ok-push, else-finds}

pub loop-pattern-preserved-in_default : goal.loop-pattern-preserved-in_default
loop-pattern-preserved-in_default c = λ text are scanned utf8.
    let live = c.args.live.now in
    let i = c.loop-pattern.pattern-index in
    let l = get_or live i none in
    let known = live_at_place c.args.automata.now text live i l are (slice_get-get_or live i none c.loop-pattern-test.true) in
    absurd (true≢false (sym (lt-ltb l.place _ (slice_get_within c.args.automata.now l.place known.0 known.1)) ∙ sym c.in_default.ensures.lookup.0))

pub loop-pattern-preserved : goal.loop-pattern-preserved
loop-pattern-preserved c = λ text are scanned utf8.
    let live = c.args.live.now in
    let automata = c.args.automata.now in
    let i = c.loop-pattern.pattern-index in
    let l = get_or live i none in
    let a = c.in-Some.automaton.now in
    let known = live_at_place automata text live i l are (slice_get-get_or live i none c.loop-pattern-test.true) in
    let item = c.in-Some.ensures.lookup in
    let at : slice_get automata l.place ≡ Some a = slice_get-get_or automata l.place a item.3.0 ∙ ap Some (sym item.1) in
    let number : l.number ≡ number_of a text =
    known.2 ∙ ap (λ s. number_of s text) (same_Some known.0 a (sym known.1 ∙ at)) in
    let says : c.finds.result ≡ finds (pattern_of a) text =
    c.finds.ensures text number (AllByRecursion-at _ automata a scanned (in_at automata l.place a at)) utf8 in
    let becomes : found_live automata text l ≡ (if finds (pattern_of a) text then l.place ∷ [] else []) =
    ap (λ o. found_at o l.place text) at in
    let so_far = c.loop-pattern.invariant text are scanned utf8 in
    elim c.if-finds.branch [
      | then-finds+in_ok-push w ↦
          ap (λ v. v.items) w.found-is ∙ w.in_ok-push.ensures.items ∙ ap (λ ks. ks ++ l.place ∷ []) so_far
          ∙ ap (λ ks. flat_map (found_live automata text) (take i live) ++ ks)
          (sym (becomes ∙ rw (← says, w.if-finds.true) refl))
          ∙ sym (live_front (found_live automata text) live i c.loop-pattern-test.true)
      | else-finds w ↦
          ap (λ v. v.items) w.found-is ∙ so_far ∙ sym (append-nil (flat_map (found_live automata text) (take i live)))
          ∙ ap (λ ks. flat_map (found_live automata text) (take i live) ++ ks)
          (sym (becomes ∙ rw (← says, w.if-finds.false) refl))
          ∙ sym (live_front (found_live automata text) live i c.loop-pattern-test.true)
    ]

pub returns : goal.returns
returns c = λ text are scanned utf8.
    let live = c.args.live.now in
    c.loop-pattern.invariant text are scanned utf8
    ∙ ap (flat_map (found_live c.args.automata.now text)) (take_all c.loop-pattern.pattern-index live c.loop-pattern-test.false)
    ∙ found_all c.args.automata.now live text are scanned utf8
