use Rattle.std.proofs.Common.{List, Bool, subst}
use Rattle.am_judged_lists.specs.Boxes.{IsInBox}
use Rattle.am_first_sets.specs.PossibleSets.{possible_space}
use Rattle.am_outcomes.proofs.FirstWalk.{first_of_walk}
use Rattle.am_outcomes.proofs.walks.Walk.first_choice.Goals as goal

pub returns-then-is_in : goal.returns-then-is_in
returns-then-is_in c = λ boxes.
    first_of_walk (possible_space c.args.possible.now) c.args.self.now c.in-Some.first boxes
    (subst (λ (b : List (List Bool)). IsInBox b c.in-Some.first) c.known.ensures
    (c.is_in.ensures c.if-is_in.true))
    c.in-Some.ensures.least
