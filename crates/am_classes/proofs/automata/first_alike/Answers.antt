use Rattle.std.proofs.Common.{◌≡◌, Some, get_or, sym, ap, ◌∙◌, arith}
use Rattle.std.proofs.lemmas.Option.{slice_get-get_or}
use Rattle.am_classes.proofs.AutomataLemmas.{same_numbers}
use Rattle.am_classes.proofs.automata.first_alike.Goals as goal

pub returns-then-are_alike : goal.returns-then-are_alike
returns-then-are_alike c = λ automata said.
    let classes = c.args.classes.now in
    let class = get_or classes c.args.byte 0 in
    let one = c.loop-one.one in
    let same : get_or classes one 0 ≡ class =
    ap (λ k. get_or classes k 0) (sym c.from-in-loop-one.ensures) ∙ c.if-classes-from.true
    ∙ ap (λ k. get_or classes k 0) c.from.ensures in
    same_numbers automata c.args.automaton.now class one c.args.byte
    (said one class (slice_get-get_or classes one 0 (omega arith) ∙ ap Some same))
    (said c.args.byte class (slice_get-get_or classes c.args.byte 0 (omega arith)))
    (c.are_alike.ensures c.if-are_alike.true)
