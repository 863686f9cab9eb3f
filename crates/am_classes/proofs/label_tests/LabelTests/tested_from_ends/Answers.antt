use Rattle.std.proofs.Common.{◌≡◌, ◌++◌, ◌∷◌, [], Bor, string_bytes, refl, sym, ap, ap₂, ◌∙◌, subst}
use Rattle.std.specs.List.{AllByRecursion}
use Rattle.std.proofs.lemmas.Iterator.Adapters.{YieldsList-from_vec}
use Rattle.std.proofs.lemmas.Iterator.Consumers.{YieldsList-end}
use Rattle.std.proofs.lemmas.List.{length-map, map-append}
use Rattle.std.proofs.lemmas.List.Folds.{map_fixed}
use Rattle.am_universe.proofs.DistinctLists.{all_push, all_pushed}
use Rattle.am_labels.specs.Matcher.{Matcher}
use Rattle.am_classes.specs.Automata.{AreScanned, found_by}
use Rattle.am_classes.specs.LabelTests.{named_places}
use Rattle.am_classes.specs.PatternPlaces.{is_found}
use Rattle.am_classes.specs.Places.{places_where}
use Rattle.am_classes.specs.Truths.{AreTested, finding}
use Rattle.am_classes.proofs.PlacedPatterns.{found_finding}
use Rattle.am_classes.proofs.label_tests.LabelTests.tested_from_ends.Goals as goal

pub loop-text-preserved : goal.loop-text-preserved
loop-text-preserved c =
    let text = c.in-Some.text in
    let t = string_bytes text in
    let automata = c.args.ends.now.automata.now in
    let tests = c.args.self.now in
    let found = c.in_ok-places.places.items in
    record {
      texts = simp (c.in_ok-push.ensures.items, map-append) (λ i. c.loop-text.invariant.texts i ++ t ∷ []);
      tested = λ ms is all.
          let parts = all_pushed _ c.loop-text.yielded text all in
          let are : found ≡ found_by automata t = (rw c.as_str.ensures.value at c.in_ok-places.ensures) parts.1 in
          let asked = found_finding tests.patterns.keys found automata t c.requires.fit c.requires.count are
          tests.matchers.items c.args.patterns.now c.requires.placed (length-map tests.matchers.items (λ (m : Bor Matcher). m.now)) in
          let named = c.in_ok-hits.ensures ∙ ap (named_places tests.named) c.as_str-in-loop-text.ensures.value ∙ is.named t in
          subst (AreTested ms) (sym c.in_ok-push.ensures.items)
          (all_push _ c.loop-text.all.items _ (c.loop-text.invariant.tested ms is parts.0)
          (c.in_ok-push_hits.ensures
          ∙ ap₂ ◌++◌ named (ap (λ bs. places_where (is_found bs) c.args.patterns.now) c.as_slice-in-loop-text.ensures.value
          ∙ asked ∙ ap (λ ns. finding ns t) is.matchers)));
    }

pub returns-clause-tested : goal.returns-clause-tested
returns-clause-tested c = λ ms is.
    let start = c.into_iter-text-iterator.ensures.into_iter_gives in
    let end =
    YieldsList-end
    (YieldsList-from_vec {s = c.into_iter-text-iterator.result} c.args.texts.items start.0
    (start.1 ∙ c.args.texts.ok.0))
    c.loop-text.yielded c.loop-text.text-iterator c.loop-text.yielded_by c.next.result
    c.next.new.self c.in-None.is c.next.ensures.steps in
    let whole : c.loop-text.yielded ≡ c.args.texts.items =
    sym (map_fixed (λ x. x) c.loop-text.yielded (λ k d h. refl)) ∙ end.0 in
    c.loop-text.invariant.tested ms is
    (subst (AllByRecursion (λ text. AreScanned c.args.ends.now.automata.now (string_bytes text))) (sym whole) c.requires.read)
