use Rattle.std.proofs.Common.{◌≡◌, ℕ, List, Bor, Some, [], slice_get, get_or, sym, ap, ◌∙◌}
use Rattle.std.proofs.lemmas.List.Quantifiers.{position-Some}
use Rattle.std.proofs.lemmas.Option.{slice_get-get_or}
use Rattle.std.proofs.lemmas.Slice.Eq.{bytes_eq-Decides}
use Rattle.am_classes.proofs.label_tests.LabelTests.finder.Goals as goal

pub of-requires-2-clause-automaton : goal.of-requires-2-clause-automaton
of-requires-2-clause-automaton c = λ a is.
    let keys = c.args.self.now.patterns.keys in
    let value = c.args.matcher.now.value in
    let place = c.in-Some.place in
    let none : Bor (List ℕ) = record { ref_ptr = (0, 0); now = [] } in
    let found = position-Some _ keys place none (sym c.get_index_of.ensures.index ∙ c.in-Some.is) in
    let pattern = get_or keys place none in
    let same : value ≡ pattern.now =
    sym c.value.ensures.value ∙ (bytes_eq-Decides c.value.result.now pattern.now).0 found.1 in
    let item = rw is at c.get.ensures.lookup in
    let at : slice_get c.args.automata.now place ≡ Some a.now =
    slice_get-get_or c.args.automata.now place a.now item.3.0 ∙ ap Some (sym item.1) in
    c.requires.fit place a.now pattern at (slice_get-get_or keys place none found.0) ∙ sym same
