use Rattle.std.proofs.Common.{◌≡◌, ◌<◌, ◌≤◌, ◌+◌, ◌++◌, ◌∷◌, [], get_or, if◌then◌else◌, ℕ, List, Bor, length, map, take, take_all, sym, ap, ◌∙◌, subst, arith}
use Rattle.std.proofs.lemmas.List.{append-nil, length-map, length-take}
use Rattle.am_labels.specs.Matcher.{Matcher}
use Rattle.am_labels.specs.Pattern.{finds}
use Rattle.am_scan.proofs.Places.{map_front}
use Rattle.am_classes.specs.LabelTests.{named_places}
use Rattle.am_classes.specs.Truths.{finding, hits, naming}
use Rattle.am_classes.proofs.HitLemmas.{hit_more, hit_same, hits_moved}
use Rattle.am_classes.proofs.label_tests.LabelTests.tested_in_turn.Goals as goal

one_more : (xs items : List (Bor Matcher)) (i : ℕ) (m : Bor Matcher) → xs ≡ items → i < length xs
    → m ≡ get_or xs i m
    → map (λ m. m.now) (take (i + 1) items) ≡ map (λ m. m.now) (take i items) ++ m.now ∷ []
one_more xs items i m same below is =
    ap (λ ys. map (λ m. m.now) (take (i + 1) ys)) (sym same)
    ∙ map_front (λ m. m.now) xs i m below is
    ∙ ap (λ ys. map (λ m. m.now) (take i ys) ++ m.now ∷ []) same

pub loop-place-init : goal.loop-place-init
loop-place-init c = record {
  texts = c.in_ok-all.ensures.texts;
  hits = λ ms is.
      hits_moved (named_places c.args.self.now.named) (λ text. naming ms text ++ [])
      (λ text. is.named text ∙ sym (append-nil (naming ms text))) c.in_ok-all.all.items
      c.in_ok-all.ensures.hits;
}

pub loop-place-preserved : goal.loop-place-preserved
loop-place-preserved c =
    let items = c.args.self.now.matchers.items in
    let place = c.loop-place.place in
    let m = c.matcher-item.result in
    let front : List Matcher = map (λ m. m.now) (take place items) in
    let more : map (λ m. m.now) (take (place + 1) items) ≡ front ++ m.now ∷ [] =
    one_more c.deref-matcher-items.result.now items place m c.deref-matcher-items.ensures.value
    c.loop-place-test.true c.matcher-item.is in
    let count : place ≡ length front =
    sym (length-map (take place items) (λ m. m.now) ∙ omega (arith, length-take place items)) in
    record {
      texts = c.in_ok-all-2.ensures.texts ∙ c.loop-place.invariant.texts;
      hits = λ ms is.
          hits_moved
          (λ text. (naming ms text ++ finding front text) ++ (if finds c.finder-finder.result text then place ∷ [] else []))
          (λ text. naming ms text ++ finding (map (λ m. m.now) (take (place + 1) items)) text)
          (λ text. ap (λ p. (naming ms text ++ finding front text) ++ (if finds p text then place ∷ [] else []))
          c.finder-finder.ensures
          ∙ sym (hit_more ms front m.now text place count (sym c.names_texts.ensures ∙ c.if-names_texts.false))
          ∙ ap (λ f. naming ms text ++ finding f text) (sym more))
          c.in_ok-all-2.all.items (c.in_ok-all-2.ensures.hits (λ text. naming ms text ++ finding front text)
          (c.loop-place.invariant.hits ms is));
    }

pub loop-place-preserved-then-names_texts : goal.loop-place-preserved-then-names_texts
loop-place-preserved-then-names_texts c =
    let items = c.args.self.now.matchers.items in
    let place = c.loop-place.place in
    let m = c.matcher-item.result in
    let front : List Matcher = map (λ m. m.now) (take place items) in
    let more : map (λ m. m.now) (take (place + 1) items) ≡ front ++ m.now ∷ [] =
    one_more c.deref-matcher-items.result.now items place m c.deref-matcher-items.ensures.value
    c.loop-place-test.true c.matcher-item.is in
    record {
      texts = c.loop-place.invariant.texts;
      hits = λ ms is.
          hits_moved (λ text. naming ms text ++ finding front text)
          (λ text. naming ms text ++ finding (map (λ m. m.now) (take (place + 1) items)) text)
          (λ text. sym (hit_same ms front m.now text (sym c.names_texts.ensures ∙ c.if-names_texts.true))
          ∙ ap (λ f. naming ms text ++ finding f text) (sym more))
          c.loop-place.all.items (c.loop-place.invariant.hits ms is);
    }

pub returns : goal.returns
returns c =
    let items = c.args.self.now.matchers.items in
    let place = c.loop-place.place in
    let within : length items ≤ place =
    subst (λ (ms : List (Bor Matcher)). length ms ≤ place) c.deref-matcher-items.ensures.value c.loop-place-test.false in
    record {
      texts = c.loop-place.invariant.texts;
      tested = λ ms is.
          hits_moved
          (λ text. naming ms text ++ finding (map (λ m. m.now) (take place items)) text) (hits ms)
          (λ text. ap (λ f. naming ms text ++ finding f text)
          (ap (map (λ m. m.now)) (take_all place items within) ∙ is.matchers))
          c.loop-place.all.items (c.loop-place.invariant.hits ms is);
    }
