use Rattle.std.proofs.Common.{arith}
use Rattle.std.proofs.lemmas.Grind.{common_steps}
use Rattle.am_universe.proofs.DistinctLists.{all_push}
use Rattle.am_universe.proofs.ListLemmas.{AllByRecursion-at, AllByRecursion-each}
use Rattle.am_universe.proofs.Members.{left_at}
use Rattle.am_complete.proofs.LabelStates.{complete_where_settled, stands_at}
use Rattle.am_complete.proofs.Pushed.{one_longer}
use Rattle.am_complete.proofs.states_of_labels.label_states.Goals as goal

pub loop-i-preserved : goal.loop-i-preserved
loop-i-preserved c = grind (arith, common_steps, one_longer, all_push)

pub loop-label-preserved : goal.loop-label-preserved
loop-label-preserved c = grind (arith, common_steps, stands_at, left_at, all_push)

pub returns-clause-each : goal.returns-clause-each
returns-clause-each c = λ ms asks.
    AllByRecursion-each _ _ (λ state i.
    (AllByRecursion-at _ _ state c.loop-label.invariant.each i).so ms asks)

pub returns-clause-unseen : goal.returns-clause-unseen
returns-clause-unseen c =
    AllByRecursion-each _ _ (λ state i.
    (AllByRecursion-at _ _ state c.loop-label.invariant.each i).unseen)

pub returns-clause-complete : goal.returns-clause-complete
returns-clause-complete c = grind (arith, common_steps, complete_where_settled)
