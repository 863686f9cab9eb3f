use Rattle.std.proofs.Common.{◌≡◌, length, Some, refl, sym, ap, ◌∙◌, subst, arith}
use Rattle.std.specs.Prelude.{slice_get}
use Rattle.am_complete.proofs.Pushed.{got_last}
use Rattle.am_outcomes.specs.Configurations.{tried_of}
use Rattle.am_outcomes.specs.MatchedPart.{matched_part}
use Rattle.am_outcomes.specs.OutcomeSearch.{searched_configurations, searched_space}
use Rattle.am_outcomes.specs.Outcomes.{outcomes_of}
use Rattle.am_outcomes.specs.Ways.{HaveManyWays}
use Rattle.am_rule_outcomes.specs.Narrowed.{left_outcomes}
use Rattle.am_rule_outcomes.specs.Narrowing.{kept_matchers}
use Rattle.am_rule_outcomes.proofs.SharedOutcomes.{kept_in_front, seen_at}
use Rattle.am_rule_outcomes.proofs.rule_outcomes.Shared.position_of.Goals as goal

pub returns-in_default-2-clause-none : goal.returns-in_default-2-clause-none
returns-in_default-2-clause-none c =
    let s = searched_space c.args.search.now in
    let t = tried_of (searched_configurations c.args.search.now) in
    subst (λ ms. HaveManyWays (matched_part s ms) t)
    (c.in_ok-among.ensures ∙ ap (λ u. kept_matchers u c.args.narrowing.now) c.requires.universe)
    (rw c.in_default-2.is at c.in_ok-found.ensures.none)

pub returns-in-Some-clause-some : goal.returns-in-Some-clause-some
returns-in-Some-clause-some c =
    seen_at (searched_space c.args.search.now) (searched_configurations c.args.search.now) _
    (λ x y. refl) c.args.self.now.seen.keys c.args.self.now.each.items c.args.narrowing
    c.in-Some.position c.requires.shared (sym c.get_index_of.ensures.index ∙ c.in-Some.is)

pub returns-clause-some : goal.returns-clause-some
returns-clause-some c =
    let s = searched_space c.args.search.now in
    let k = searched_configurations c.args.search.now in
    let each = c.args.self.now.each.items in
    let found = c.in-Some-2.found in
    let last : c.len-position.result ≡ length each = omega (arith, c.args.self.now.each.ok.0) in
    let is : found ≡ left_outcomes s k c.args.narrowing.now =
    rw c.in-Some-2.is at c.in_ok-found.ensures.some
    ∙ ap (λ ms. outcomes_of (matched_part s ms) k) (c.in_ok-among.ensures
    ∙ ap (λ u. kept_matchers u c.args.narrowing.now) c.requires.universe) in
    (λ i. slice_get (c.in_ok-push.ensures.items i) (last i)) ∙ got_last each found ∙ ap Some is

pub returns-clause-kept : goal.returns-clause-kept
returns-clause-kept c = λ i within.
    ap (λ each. slice_get each i) c.in_ok-push.ensures.items
    ∙ kept_in_front c.args.self.now.each.items c.in-Some-2.found i within
