-- What holds over the universe that is made holds over every alert.
use Rattle.std.proofs.Common.{◌≡◌, subst}
use Rattle.am_labels.specs.Space.{Space}
use Rattle.am_eval.specs.Reaching.{IsSetOf}
use Rattle.am_every_alert.specs.Deciding.{space_of}
use Rattle.am_idle.specs.Extent.{MatchesOne, MatchesNone}
use Rattle.am_idle.proofs.FoundSets.{if_found}
use Rattle.am_idle.proofs.ListsStand.{one_over, none_over}
use Rattle.am_idle.proofs.extent.matches_some.Goals as goal
use Rattle.am_idle.proofs.extent.matches_some.Goals.{In_ok-found_or_used_up}

declared : (c : In_ok-found_or_used_up)
    → c.declare.new.self ≡ space_of c.args.space.now.impossible c.in_ok-universe.universe
declared c = λ i. record {
  labels = c.declare.ensures.labels i;
  impossible = c.declare.ensures.impossible i;
}

pub returns-clause-some : goal.returns-clause-some
returns-clause-some c =
    if_found _ _ (λ some one is. one_over c.args.alphabet c.args.space.now c.in_ok-universe.universe
    c.args.matchers.now c.in_ok-universe.ensures.stands
    (subst (λ (s : Space). MatchesOne (IsSetOf s) c.args.matchers.now)
    (declared (goal.at.returns-clause-some c).In_ok-found_or_used_up) (one is)))
    c.matches_some_in-some.result c.in_ok-found_or_used_up.field-0 c.in_ok-found_or_used_up.ensures
    c.matches_some_in-some.ensures.some

pub returns-clause-none : goal.returns-clause-none
returns-clause-none c =
    if_found _ _ (λ some none is. none_over c.args.alphabet c.args.space.now
    c.in_ok-universe.universe c.args.matchers.now c.in_ok-universe.ensures.stands
    (subst (λ (s : Space). MatchesNone (IsSetOf s) c.args.matchers.now)
    (declared (goal.at.returns-clause-none c).In_ok-found_or_used_up) (none is)))
    c.matches_some_in-some.result c.in_ok-found_or_used_up.field-0 c.in_ok-found_or_used_up.ensures
    c.matches_some_in-some.ensures.none
