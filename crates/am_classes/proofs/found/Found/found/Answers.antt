use Rattle.std.proofs.Common.{◌≡◌, map, slice_get, sym, ap, ◌∙◌}
use Rattle.std.proofs.lemmas.Option.{IfSome_then}
use Rattle.am_scan.specs.Automaton.{pattern_of}
use Rattle.am_classes.specs.Automata.{found_by}
use Rattle.am_classes.proofs.AutomataLemmas.{found_alike}
use Rattle.am_classes.proofs.found.Found.found.Goals as goal

pub returns : goal.returns
returns c = λ automata alike.
    let own = c.self.inside.questions.automata.items in
    let same : map pattern_of own ≡ map pattern_of automata =
    sym (alike ∙ sym (ap (λ v. v.1.1) c.self.view_is)) in
    IfSome_then c.found_in.result c.found_in.ensures (λ found is.
    let at = ap (λ items. slice_get items is.0) (sym c.as_slice.ensures.value) ∙ is.2 in
    is.4
    ∙ (c.self.invariant.distinct.own is.0 is.1 at).found
    ∙ ap (found_by own) is.3
    ∙ found_alike own automata c.args.text.now same)
