use Rattle.std.proofs.Common.{◌≡◌, ◌∙◌, sym, ap, subst, None, is_ok}
use Rattle.am_universe.specs.Universe.{any_name_fault, named_label_fault, any_label_fault}
use Rattle.am_universe.specs.UniverseView.{label_of, texts_of}
use Rattle.am_universe.proofs.LabelFaultLemmas.{pushed_universe, none_of_memory, no_part_at_fault}
use Rattle.am_universe.proofs.universe.Universe.add_unless.Goals as goal

pub returns-in-Some-clause-memory : goal.returns-in-Some-clause-memory
returns-in-Some-clause-memory c = λ memory.
    let u = c.args.self.now in
    let by_values = ap (λ xs. named_label_fault c.args.of_name u (texts_of xs)) c.as_slice.ensures.value in
    none_of_memory c.args.of_name u (texts_of c.args.values.items) c.in-Some.fault c.requires.kind
    (sym by_values ∙ sym c.label_fault.ensures ∙ c.in-Some.is) memory

pub invariant_of-self : goal.invariant_of-self
invariant_of-self c =
    let u = c.self.inside.labels.items in
    let label = label_of c.args.name c.args.values in
    let fine : named_label_fault c.args.of_name u label.values ≡ None = cc in
    let parts = no_part_at_fault c.args.of_name u label.values fine in
    let free = c.requires.named parts.1 in
    let named : any_name_fault u label.name ≡ None = cc in
    let whole : any_label_fault u label ≡ None = subst (λ of_name. named_label_fault of_name u label.values ≡ None) (parts.1 ∙ sym named) fine in
    rw c.push.ensures.items (pushed_universe u label (is_ok c.push.result) c.self.invariant whole)
