use Rattle.std.proofs.Common.{List, ℕ, [], refl, ap, sym, ◌∙◌, length, subst, subst₂, arith}
use Rattle.std.proofs.lemmas.List.{take_all}
use Rattle.std.proofs.lemmas.Option.{slice_get_read}
use Rattle.am_universe.specs.Choice.{IsWhole}
use Rattle.am_universe.specs.LabelSet.{label_set_of}
use Rattle.am_universe.specs.Universe.{Label, sizes}
use Rattle.am_universe.proofs.ListLemmas.{Contains-from_IsIn, IsIn}
use Rattle.am_universe.proofs.Members.{in_at}
use Rattle.am_labels.specs.Space.{Space}
use Rattle.am_outcomes.specs.Configurations.{tried_of}
use Rattle.am_outcomes.specs.FirstsOfWays.{AreFirstsOfWays}
use Rattle.am_outcomes.specs.MatchedPart.{matched_part}
use Rattle.am_outcomes.specs.Outcomes.{outcome_of}
use Rattle.am_outcomes.specs.OutcomeSearch.{searched_configurations, searched_space}
use Rattle.am_outcomes.specs.Routers.{AreRoutedOver}
use Rattle.am_outcomes.specs.Steps.{GoesThrough}
use Rattle.am_outcomes.specs.declared.steps.Step.{Step}
use Rattle.am_outcomes.proofs.Gathered.{one_outcome_more, outcomes_after, outcomes_are}
use Rattle.am_outcomes.proofs.Gathered.{there_already, same_kept}
use Rattle.am_outcomes.proofs.FirstSteps.{added, looked_up}
use Rattle.am_outcomes.proofs.outcome_search.OutcomeSearch.outcomes_among.Goals as goal
use Rattle.am_outcomes.proofs.outcome_search.OutcomeSearch.outcomes_among.Goals.{In-Some, then-not-contains_key+in_ok-insert}
use Rattle.am_outcomes.proofs.outcome_search.OutcomeSearch.outcomes_among.Goals.{else-not-contains_key}

pub firsts_of_ways-requires-clause-goes : goal.firsts_of_ways-requires-clause-goes
firsts_of_ways-requires-clause-goes c =
    let t = tried_of (searched_configurations c.args.self.now) in (
      t,
      subst₂ (λ (u : List Label) (steps : List Step). GoesThrough u t steps (length steps))
          (sym c.universe-universe.ensures.labels) (sym c.as_slice-steps.ensures.value)
          c.requires.goes,
    )

-- the choices are the first ones of the ways of a part of the space
first_choices : (c : In-Some)
    → AreFirstsOfWays (matched_part (searched_space c.args.self.now) c.args.among.now)
    (tried_of (searched_configurations c.args.self.now)) c.in-Some.choices.items
first_choices c =
    let t = tried_of (searched_configurations c.args.self.now) in
    subst (λ (s : Space). AreFirstsOfWays (matched_part s c.args.among.now) t c.in-Some.choices.items)
    c.requires.space
    (rw c.in-Some.is at c.in_ok-found.ensures.firsts t
    (subst₂ (λ (u : List Label) (steps : List Step). GoesThrough u t steps (length steps))
    (sym c.universe-universe.ensures.labels) (sym c.as_slice-steps.ensures.value) c.requires.goes))

pub outcome_of-requires-clause-whole : goal.outcome_of-requires-clause-whole
outcome_of-requires-clause-whole c =
    let items = c.deref-choice-items.result.now in
    let i = c.loop-choice.choice-index in
    let choice = c.choice-item.result in
    let there = in_at items i choice
    (slice_get_read items (length items) i choice refl c.loop-choice-test.true c.choice-item.is) in
    let first = (first_choices (goal.at.outcome_of-requires-clause-whole c).In-Some).each choice
    (Contains-from_IsIn c.in-Some.choices.items choice
    (subst (λ (xs : List (List ℕ)). IsIn xs choice) c.deref-choice-items.ensures.value there)) in
    subst (λ (u : List Label). IsWhole (sizes u) choice) (sym c.universe-universe.ensures.labels)
    first.choice.0

pub outcome_of-requires-clause-over : goal.outcome_of-requires-clause-over
outcome_of-requires-clause-over c =
    subst (λ (u : List Label). AreRoutedOver u c.args.self.now.routed)
    (sym c.universe-universe.ensures.labels) c.requires.over

pub returns-clause-some : goal.returns-clause-some
returns-clause-some c =
    let s = searched_space c.args.self.now in
    let k = searched_configurations c.args.self.now in
    c.loop-choice.invariant
    ∙ ap (outcomes_after s k [])
    (take_all c.loop-choice.choice-index c.deref-choice-items.result.now
    (omega (arith, c.loop-choice-test.false)) ∙ c.deref-choice-items.ensures.value)
    ∙ outcomes_are (matched_part s c.args.among.now) k c.in-Some.choices.items
    (first_choices (goal.at.returns-clause-some c).In-Some)
    (rw c.in-Some.is at c.in_ok-found.ensures.sorted)

pub loop-choice-preserved : goal.loop-choice-preserved
loop-choice-preserved c =
    let s = searched_space c.args.self.now in
    let k = searched_configurations c.args.self.now in
    let choice = c.choice-item.result in
    one_outcome_more s k c.deref-choice-items.result.now c.loop-choice.choice-index choice
    c.loop-choice.firsts.entries c.if-not-contains_key.firsts.entries c.in_ok-lists.lists
    c.loop-choice-test.true c.choice-item.is c.loop-choice.invariant
    (c.in_ok-lists.ensures
    ∙ ap (λ u. outcome_of k (label_set_of u choice)) c.universe-universe.ensures.labels)
    (elim c.if-not-contains_key.branch [
      | then-not-contains_key+in_ok-insert w ↦
          ap (λ m. m.entries) w.firsts-is ∙ w.in_ok-insert.ensures.entries
          ∙ added same_kept c.loop-choice.firsts c.in_ok-lists.lists choice
          (sym (c.contains_key.ensures ∙ looked_up same_kept c.loop-choice.firsts.entries
          c.in_ok-lists.lists) ∙ w.if-not-contains_key.true)
      | else-not-contains_key w ↦
          ap (λ m. m.entries) w.firsts-is
          ∙ there_already c.loop-choice.firsts.entries (c.in_ok-lists.lists, choice)
          (sym (c.contains_key.ensures ∙ looked_up same_kept c.loop-choice.firsts.entries
          c.in_ok-lists.lists) ∙ w.if-not-contains_key.false)
    ])
