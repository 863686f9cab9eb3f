use Rattle.std.proofs.Common.{◌≡◌, ◌*◌, ◌+◌, ◌++◌, ◌∷◌, [], ◌&&◌, ℕ, List, length, take, subst, sym, ap, ◌∙◌}
use Rattle.std.proofs.lemmas.List.{take_more, take_all}
use Rattle.am_universe.specs.Universe.{Label}
use Rattle.am_judged_lists.specs.declared.pairs.Side.TheVariants.{First, Second}
use Rattle.am_judged_lists.specs.Cube.{MaskedLabels, matches}
use Rattle.am_judged_lists.specs.Pairs.{seen}
use Rattle.am_first_sets.specs.declared.possible_choices.PossibleChoices.{PossibleChoices}
use Rattle.am_first_sets.specs.Meeting.{is_possible_by}
use Rattle.am_first_sets.specs.PossibleSets.{possible_space}
use Rattle.am_first_sets.proofs.PairLemmas.{both_more, sides_pair, pair_seen}
use Rattle.am_first_sets.proofs.pairs.Pairs.of.Goals as goal
use Rattle.am_first_sets.proofs.pairs.Pairs.of.Goals.{After-loop-cube}

pub loop-cube-preserved : goal.loop-cube-preserved
loop-cube-preserved c = λ e long.
    let listed = c.deref-cube-items.result.now in
    let i = c.loop-cube.cube-index in
    let cube = c.cube-item.result in
    let shared = c.in_ok-shared.shared.items in
    let n = c.len-labels.result in
    let grows : take (i + 1) listed ≡ take i listed ++ cube ∷ [] =
    take_more listed i cube c.loop-cube-test.true
    ∙ ap (λ (x : MaskedLabels). take i listed ++ x ∷ []) (sym c.cube-item.is) in
    rw (c.in_ok-push-2.ensures.items, c.in_ok-push.ensures.items)
    (both_more c.loop-cube.impossible.items listed i cube c.in_ok-through.field-0 c.in_ok-through-2.field-0 e
    (seen First shared n e) (seen Second shared n e) grows
    (subst (λ (xs : List ℕ). matches c.in_ok-through.field-0 e ≡ matches cube (seen First xs n e))
    c.as_slice.ensures.value (c.in_ok-through.ensures e long))
    (subst (λ (xs : List ℕ). matches c.in_ok-through-2.field-0 e ≡ matches cube (seen Second xs n e))
    c.as_slice-in-loop-cube.ensures.value (c.in_ok-through-2.ensures e long))
    (c.loop-cube.invariant e long))

-- the number of labels
many : (c : After-loop-cube) → c.len-labels.result ≡ length c.args.possible.now.choices.all
many c =
    c.len-labels.ensures.len ∙ ap (λ (u : List Label). length u) c.universe.ensures.labels
    ∙ sym c.args.possible.now.are_choices.long

both : (c : After-loop-cube) (e : List ℕ) → length e ≡ 2 * c.len-labels.result
    → is_possible_by c.loop-cube.impossible.items e
    ≡ (is_possible_by c.args.possible.now.choices.impossible.items (seen First c.in_ok-shared.shared.items c.len-labels.result e)
    && is_possible_by c.args.possible.now.choices.impossible.items (seen Second c.in_ok-shared.shared.items c.len-labels.result e))
both c e long =
    let all = take_all c.loop-cube.cube-index c.deref-cube-items.result.now c.loop-cube-test.false ∙ c.deref-cube-items.ensures.value in
    rw all at (c.loop-cube.invariant e long)

pub returns : goal.returns
returns c =
    let at = (goal.at.returns c).After-loop-cube in
    let possible = c.args.possible.now in
    let pairs : PossibleChoices = record { all = c.in_ok-all.all; impossible = c.loop-cube.impossible } in
    let shared = c.in_ok-shared.shared.items in
    let same : shared ≡ c.args.shared.now = c.in_ok-shared.ensures.items_if_clones_equal (λ x y h. h) in
    rw (← same) (record {
      pairs = record {
        sides = sides_pair (possible_space possible) possible.choices pairs possible.are_choices
            c.len-labels.result shared (many at) c.in_ok-all.ensures (both at);
        every = pair_seen (possible_space possible) possible.choices pairs possible.are_choices
            c.len-labels.result shared (many at) c.in_ok-all.ensures (both at);
      };
    })
