use Rattle.std.proofs.Common.{List, Bool, subst, ◌∙◌}
use Rattle.am_judged_lists.specs.Boxes.{IsInBox}
use Rattle.am_first_sets.specs.PossibleSets.{possible_space}
use Rattle.am_outcomes.proofs.MissedChoices.{missed_at}
use Rattle.am_outcomes.proofs.WalkLemmas.{on_unmatched}
use Rattle.am_outcomes.proofs.walks.Walk.some_unmatched.Goals as goal

pub returns-in_ok-some-in-Opens-clause-some : goal.returns-in_ok-some-in-Opens-clause-some
returns-in_ok-some-in-Opens-clause-some c = λ boxes.
    on_unmatched (possible_space c.args.possible.now) c.args.self.now c.args.cube c.keep.new.self boxes
    (λ d inside.
    let old = (c.keep.ensures.choices d).0 inside in (
      subst (λ (b : List (List Bool)). IsInBox b d)
          (c.in_ok-some-in-Opens.ensures.same ∙ c.known-in-Opens.ensures) old.0,
      missed_at c.args.cube.now d c.in-Opens.label old.1,
    ))
