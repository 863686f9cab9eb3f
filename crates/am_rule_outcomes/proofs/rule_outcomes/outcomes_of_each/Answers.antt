use Rattle.std.proofs.Common.{ℕ, ◌≡◌, Option, length, map, take, Some, None, option_map, refl, sym, ap, ◌∙◌, subst, subst₂, arith}
use Rattle.std.specs.Prelude.{slice_get}
use Rattle.std.specs.List.{AllByRecursion}
use Rattle.std.specs.Global.{Vec}
use Rattle.std.proofs.lemmas.List.{length-map, take_all}
use Rattle.std.proofs.lemmas.Option.{slice_get-map}
use Rattle.am_universe.proofs.ListLemmas.{Contains-from_IsIn}
use Rattle.am_universe.proofs.Members.{in_at}
use Rattle.am_complete.proofs.LabelStates.{stands_at}
use Rattle.am_outcomes.specs.Configurations.{configurations_of, tried_of}
use Rattle.am_outcomes.specs.OutcomeSearch.{searched_configurations, searched_space}
use Rattle.am_outcomes.specs.Ways.{HaveManyWays}
use Rattle.am_rule_outcomes.specs.Narrowed.{HaveWholeChoices, left_outcomes, narrowed_outcomes}
use Rattle.am_rule_outcomes.specs.Narrowing.{narrowed}
use Rattle.am_rule_outcomes.specs.NarrowingView.{AreShared, narrowed_each, narrowed_with}
use Rattle.am_rule_outcomes.specs.NarrowingView.{narrowing_view}
use Rattle.am_rule_outcomes.proofs.NarrowingLemmas.{zip_length}
use Rattle.am_rule_outcomes.proofs.SharedOutcomes.{IsPosition, of_narrowings, position_more, positions_stay}
use Rattle.am_rule_outcomes.proofs.SharedOutcomes.{all_at, all_whole_of, labelled_stay}
use Rattle.am_rule_outcomes.proofs.rule_outcomes.outcomes_of_each.Goals as goal

pub loop-rule-preserved-in_default : goal.loop-rule-preserved-in_default
loop-rule-preserved-in_default c =
    let s = c.args.space.now in
    let k = configurations_of c.args.configs in
    let each = narrowed_each s.labels c.loop-rule.shared.each.items in
    let items = c.args.narrowings.now in
    let item = c.index-narrowings-rule.result in
    let at = stands_at items c.loop-rule.rule item c.loop-rule-test.true c.index-narrowings-rule.is in
    record {
      shared = c.loop-rule.invariant.shared;
      positions = position_more s k each items c.loop-rule.rule item c.loop-rule.of_rules.items _ None at
          c.loop-rule.invariant.positions
          (subst (λ (n : Option (Vec (Option ℕ))). IsPosition each (option_map (narrowed_outcomes s k) (narrowing_view n)) None)
          (sym c.in_default.is) refl)
          c.in_ok-push.ensures.items;
    }

pub returns-in-None-clause-none : goal.returns-in-None-clause-none
returns-in-None-clause-none c =
    let items = c.args.narrowings.now in
    let i = c.loop-rule.rule in
    let at = stands_at items i c.index-narrowings-rule.result c.loop-rule-test.true c.index-narrowings-rule.is in
    let views = map narrowing_view items in
    let kept = c.in-Some.kept.items in
    let search = c.in_ok-search.search in
    let many : HaveManyWays (narrowed (searched_space search) c.as_slice-kept.result.now)
    (tried_of (searched_configurations search)) =
    rw c.in-None.is at c.in_ok-position.ensures.none in
    record {
      kept = kept;
      one = Contains-from_IsIn views (Some kept)
          (in_at views i (Some kept)
          (slice_get-map narrowing_view items i ∙ ap (option_map narrowing_view) at
          ∙ ap (λ n. Some (narrowing_view n)) c.in-Some.is));
      many = subst₂ HaveManyWays
          (λ j. narrowed (c.in_ok-search.ensures.space j) (c.as_slice-kept.ensures.value j))
          (ap tried_of c.in_ok-search.ensures.configurations) many;
    }

pub loop-rule-preserved : goal.loop-rule-preserved
loop-rule-preserved c =
    let s = c.args.space.now in
    let k = configurations_of c.args.configs in
    let search = c.in_ok-search.search in
    let before = c.loop-rule.shared.each.items in
    let each = c.position_of.new.self.each.items in
    let items = c.args.narrowings.now in
    let i = c.loop-rule.rule in
    let item = c.index-narrowings-rule.result in
    let at = stands_at items i item c.loop-rule-test.true c.index-narrowings-rule.is in
    let position = c.in-Some-2.position in
    let found : slice_get each position ≡ Some (left_outcomes (searched_space search)
    (searched_configurations search) c.as_slice-kept.result.now) =
    rw c.in-Some-2.is at c.in_ok-position.ensures.some in
    let shared : AreShared (searched_space search) (searched_configurations search) c.position_of.new.self =
    rw c.in-Some-2.is at c.in_ok-position.ensures.shared in
    record {
      shared = subst₂ (λ s k. AreShared s k c.position_of.new.self) c.in_ok-search.ensures.space
          c.in_ok-search.ensures.configurations shared;
      positions = position_more s k (narrowed_each s.labels each) items i item c.loop-rule.of_rules.items _
          (Some position) at
          (positions_stay (narrowed_each s.labels before) (narrowed_each s.labels each)
          (labelled_stay s.labels before each c.in_ok-position.ensures.kept)
          (of_narrowings s k (take i items)) c.loop-rule.of_rules.items c.loop-rule.invariant.positions)
          (subst (λ (n : Option (Vec (Option ℕ))). IsPosition (narrowed_each s.labels each)
          (option_map (narrowed_outcomes s k) (narrowing_view n)) (Some position)) (sym c.in-Some.is)
          (slice_get-map (narrowed_with s.labels) each position
          ∙ ap (option_map (narrowed_with s.labels)) found
          ∙ (λ j. Some (narrowed_with s.labels (left_outcomes (c.in_ok-search.ensures.space j)
          (c.in_ok-search.ensures.configurations j) (c.as_slice-kept.ensures.value j))))))
          c.in_ok-push-in-Some-2.ensures.items;
    }

pub returns-clause-some : goal.returns-clause-some
returns-clause-some c =
    let s = c.args.space.now in
    let k = configurations_of c.args.configs in
    all_at (narrowed_each s.labels c.loop-rule.shared.each.items) _ c.loop-rule.of_rules.items
    c.loop-rule.invariant.positions
    ∙ ap (of_narrowings s k) (take_all c.loop-rule.rule c.args.narrowings.now (omega arith))

pub returns-clause-whole : goal.returns-clause-whole
returns-clause-whole c =
    let s = c.args.space.now in
    subst (λ each. AllByRecursion HaveWholeChoices (narrowed_each s.labels each))
    (sym c.loop-rule.invariant.shared)
    (all_whole_of s (configurations_of c.args.configs) c.loop-rule.shared.seen.keys)

pub returns-clause-count : goal.returns-clause-count
returns-clause-count c =
    let taken = take c.loop-rule.rule c.args.narrowings.now in
    sym (zip_length (IsPosition (narrowed_each c.args.space.now.labels c.loop-rule.shared.each.items)) _
    c.loop-rule.of_rules.items c.loop-rule.invariant.positions)
    ∙ length-map (map narrowing_view taken) _ ∙ length-map taken narrowing_view
    ∙ ap length (take_all c.loop-rule.rule c.args.narrowings.now (omega arith))
