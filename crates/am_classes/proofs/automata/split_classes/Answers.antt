use Rattle.std.proofs.Common.{◌≡◌, ◌<◌, ◌∷◌, ◌++◌, [], Some, slice_get, length, length-set, set, ◌∙◌, subst, arith}
use Rattle.std.proofs.lemmas.Option.{slice_get_within}
use Rattle.am_classes.proofs.AutomataLemmas.{classes_set}
use Rattle.am_classes.proofs.automata.split_classes.Goals as goal

pub loop-byte-preserved : goal.loop-byte-preserved
loop-byte-preserved c = record {
  count = length-set c.loop-byte.split c.from.result c.first_alike.result ∙ c.loop-byte.invariant.count;
  each = λ automata said byte class below at.
      classes_set (automata ++ c.args.automaton.now ∷ []) c.loop-byte.split c.loop-byte.byte
      c.first_alike.result (omega arith) (c.first_alike.ensures automata said)
      (c.loop-byte.invariant.each automata said) byte class below
      (subst (λ i. slice_get (set c.loop-byte.split i c.first_alike.result) byte ≡ Some class) c.from.ensures at);
}

pub returns-2 : goal.returns-2
returns-2 c = λ automata said byte class at.
    let split = set c.loop-byte.split c.from.result c.first_alike.result in
    let count : length split ≡ 256 =
    length-set c.loop-byte.split c.from.result c.first_alike.result ∙ c.loop-byte.invariant.count in
    let within : byte < length split = slice_get_within split byte class at in
    classes_set (automata ++ c.args.automaton.now ∷ []) c.loop-byte.split c.loop-byte.byte
    c.first_alike.result (omega arith) (c.first_alike.ensures automata said)
    (c.loop-byte.invariant.each automata said) byte class (omega (arith, within, count))
    (subst (λ i. slice_get (set c.loop-byte.split i c.first_alike.result) byte ≡ Some class) c.from.ensures at)
