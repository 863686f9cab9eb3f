use Rattle.std.proofs.Common.{◌≡◌, ℕ, List, Bor, Some, [], get_or, sym, ◌∙◌}
use Rattle.std.proofs.lemmas.List.Quantifiers.{position-Some}
use Rattle.std.proofs.lemmas.Option.{slice_get-get_or}
use Rattle.std.proofs.lemmas.Slice.Eq.{bytes_eq-Decides}
use Rattle.am_classes.proofs.PlacedPatterns.{placed_more}
use Rattle.am_classes.proofs.label_tests.LabelTests.pattern_places.Goals as goal

pub loop-matcher-preserved : goal.loop-matcher-preserved
loop-matcher-preserved c =
    let keys = c.args.self.now.patterns.keys in
    let place = c.in-Some.place in
    let m = c.matcher-item.result in
    let none : Bor (List ℕ) = record { ref_ptr = (0, 0); now = [] } in
    let found = position-Some _ keys place none (sym c.get_index_of.ensures.index ∙ c.in-Some.is) in
    let pattern = get_or keys place none in
    let same : m.now.value ≡ pattern.now =
    sym c.value.ensures.value ∙ (bytes_eq-Decides c.value.result.now pattern.now).0 found.1 in
    placed_more keys c.deref-matcher-items.result.now c.args.self.now.matchers.items c.loop-matcher.matcher-index m
    c.loop-matcher.places.items c.push-in-loop-matcher.new.self.items (Some place)
    c.deref-matcher-items.ensures.value c.loop-matcher-test.true c.matcher-item.is c.loop-matcher.invariant
    c.in_ok-push-2.ensures.items
    (sym c.names_texts.ensures ∙ c.if-names_texts.false, pattern, slice_get-get_or keys place none found.0, sym same)
