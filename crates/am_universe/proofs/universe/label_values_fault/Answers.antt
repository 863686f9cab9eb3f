use Rattle.std.proofs.Common.{◌≡◌, ◌∙◌, sym, Some, None, ap, option_map, string_bytes, arith, take}
use Rattle.am_universe.specs.Universe.{value_fault}
use Rattle.am_universe.specs.UniverseView.{texts_of}
use Rattle.am_universe.proofs.UniverseLemmas.{fault_from_start, fault_from_here, fault_from_later, fault_from_end}
use Rattle.am_universe.proofs.universe.label_values_fault.Goals as goal

pub loop-i-init : goal.loop-i-init
loop-i-init c = fault_from_start c.args.values.now cc

pub returns-in-Some-value_fault : goal.returns-in-Some-value_fault
returns-in-Some-value_fault c =
    let values = c.args.values.now in
    let value = c.index-values-i.result in
    let found : value_fault (texts_of (take c.loop-i.i values)) (option_map string_bytes value) ≡ Some c.in-Some-value_fault.kind =
    ap (value_fault (texts_of (take c.loop-i.i values))) (sym c.text_of.ensures) ∙ sym c.value_fault.ensures.fault ∙ c.in-Some-value_fault.is in
    sym (c.loop-i.invariant ∙ fault_from_here values c.loop-i.i value c.in-Some-value_fault.kind (omega arith) c.index-values-i.is found ∙ ap Some (sym c.label_fault_at-in-Some-value_fault.ensures))

pub loop-i-preserved : goal.loop-i-preserved
loop-i-preserved c =
    let values = c.args.values.now in
    let value = c.index-values-i.result in
    let fine : value_fault (texts_of (take c.loop-i.i values)) (option_map string_bytes value) ≡ None =
    ap (value_fault (texts_of (take c.loop-i.i values))) (sym c.text_of.ensures) ∙ sym c.value_fault.ensures.fault ∙ c.in_default-value_fault.is in
    c.loop-i.invariant ∙ fault_from_later values c.loop-i.i value (omega arith) c.index-values-i.is fine

pub returns : goal.returns
returns c = sym (c.loop-i.invariant ∙ fault_from_end c.args.values.now c.loop-i.i (omega arith))
