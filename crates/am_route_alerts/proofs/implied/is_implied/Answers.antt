-- What a search says of the first literals and the opposite, or of all with the opposite.
use Rattle.std.proofs.Common.{◌≡◌, ◌∷◌, ◌++◌, [], List, length, take, set, refl, sym, ap, ◌∙◌, subst}
use Rattle.std.proofs.Common.{not}
use Rattle.std.proofs.lemmas.Option.{slice_get_read}
use Rattle.am_first_sets.specs.declared.candidate.Candidate.{Candidate}
use Rattle.am_first_sets.specs.PossibleChoices.{IsPossible}
use Rattle.am_first_sets.specs.Literals.{IsMet, IsUnmet}
use Rattle.am_first_sets.proofs.ReasonLemmas.{met_if, unmet_if}
use Rattle.am_route_alerts.specs.Implied.{negated}
use Rattle.am_route_alerts.proofs.ImpliedLemmas.{opposite, negated_is_set, few_unmet}
use Rattle.am_route_alerts.proofs.implied.is_implied.Goals.{After-as_slice-2, After-as_slice-3}
use Rattle.am_route_alerts.proofs.implied.is_implied.Goals as goal

-- what the second search is for
opposed : (c : After-as_slice-2) → c.as_slice-2.result.now ≡ negated c.args.i c.args.literals.now
opposed c =
    let ks = c.args.literals.now in
    let i = c.args.i in
    let k = c.index-literals-i.result in
    c.as_slice-2.ensures.value
    ∙ ap (λ (ls : List Candidate). set ls i (opposite k))
    (c.in_ok-all.ensures.items_if_clones_equal (λ x y h. h))
    ∙ negated_is_set i ks k
    (slice_get_read ks (length ks) i k refl c.requires.there c.index-literals-i.is)

pub returns-then-is_none-clause-implied : goal.returns-then-is_none-clause-implied
returns-then-is_none-clause-implied c = λ yes.
    let Is = IsPossible c.args.possible.now in
    let ks = c.args.literals.now in
    let i = c.args.i in
    let from = c.args.from in
    let k = c.index-literals-i.result in
    let are : c.as_slice.result.now ≡ take from ks ++ opposite k ∷ [] =
    c.as_slice.ensures.value ∙ c.in_ok-push.ensures.items
    ∙ ap (λ (ls : List Candidate). ls ++ opposite k ∷ [])
    (c.in_ok-few.ensures.items_if_clones_equal (λ x y h. h)) in
    few_unmet Is from i ks k
    (slice_get_read ks (length ks) i k refl c.requires.there c.index-literals-i.is)
    c.requires.behind
    (subst (IsUnmet Is) are
    (unmet_if Is c.as_slice.result.now c.in_ok-some_meeting.field-0
    c.in_ok-some_meeting.ensures.none c.if-is_none.ensures))

pub returns-then-branch-clause-needed : goal.returns-then-branch-clause-needed
returns-then-branch-clause-needed c = λ no.
    subst (IsMet (IsPossible c.args.possible.now))
    (opposed (goal.at.returns-then-branch-clause-needed c).After-as_slice-2)
    (c.in_ok-is_met_near.ensures.met c.if-branch.true)

-- the last search is for the same
again : (c : After-as_slice-3) → c.as_slice-3.result.now ≡ negated c.args.i c.args.literals.now
again c =
    c.as_slice-3.ensures.value ∙ sym c.as_slice-2.ensures.value
    ∙ opposed (goal.at.After-as_slice-3 c).After-as_slice-2

pub returns-clause-implied : goal.returns-clause-implied
returns-clause-implied c = λ yes.
    let Is = IsPossible c.args.possible.now in
    subst (IsUnmet Is) (again (goal.at.returns-clause-implied c).After-as_slice-3)
    (unmet_if Is c.as_slice-3.result.now c.in_ok-some_meeting-2.field-0
    c.in_ok-some_meeting-2.ensures.none (c.is_none-2.ensures ∙ ap not yes))

pub returns-clause-needed : goal.returns-clause-needed
returns-clause-needed c = λ no.
    let Is = IsPossible c.args.possible.now in
    subst (IsMet Is) (again (goal.at.returns-clause-needed c).After-as_slice-3)
    (met_if Is c.as_slice-3.result.now c.in_ok-some_meeting-2.field-0
    c.in_ok-some_meeting-2.ensures.some (c.is_none-2.ensures ∙ ap not no))
