use Rattle.std.proofs.Common.{sym, subst, take, take_all, arith}
use Rattle.am_scan.proofs.Places.{take_front}
use Rattle.am_classes.specs.Automata.{AreClasses}
use Rattle.am_classes.proofs.automata.byte_classes.Goals as goal

pub loop-automaton-preserved : goal.loop-automaton-preserved
loop-automaton-preserved c =
    let automata = c.args.automata.now in
    let i = c.loop-automaton.automaton-index in
    subst (λ xs. AreClasses xs c.split_classes-classes.result)
    (sym (take_front automata i c.automaton-item.result c.loop-automaton-test.true c.automaton-item.is))
    (c.split_classes-classes.ensures (take i automata) c.loop-automaton.invariant)

pub returns : goal.returns
returns c =
    subst (λ xs. AreClasses xs c.loop-automaton.classes)
    (take_all c.loop-automaton.automaton-index c.args.automata.now (omega arith))
    c.loop-automaton.invariant
