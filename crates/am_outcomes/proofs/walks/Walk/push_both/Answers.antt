use Rattle.std.proofs.Common.{◌≡◌, ◌∷◌, [], ◌++◌, ℕ, List, Bool, true, false, refl, ap}
use Rattle.std.proofs.Common.{sym, ◌∙◌, subst}
use Rattle.am_judged_lists.specs.Boxes.{IsInBox}
use Rattle.am_judged_lists.specs.Cube.{matches}
use Rattle.am_first_sets.specs.PossibleSets.{possible_space}
use Rattle.am_outcomes.specs.Walks.{AreAllOn, AreBoxesOf}
use Rattle.am_outcomes.proofs.WalkLemmas.{whole_branch, one_branch, both_branches, matched_branch}
use Rattle.am_outcomes.proofs.WalkLemmas.{unmatched_branch, none_matched, all_matched, pushed_twice}
use Rattle.am_outcomes.proofs.walks.Walk.push_both.Goals as goal
use Rattle.am_outcomes.proofs.walks.Walk.push_both.Goals.{in-Some-2+in_ok-push-3+in_ok-push-4+in-Some-1}
use Rattle.am_outcomes.proofs.walks.Walk.push_both.Goals.{in-Some-2+in_ok-push-3+in_ok-push-4+in-None-1}
use Rattle.am_outcomes.proofs.walks.Walk.push_both.Goals.{in_default-2+in-Some-1, in_default-2+in-None-1}

pub returns-in_default : goal.returns-in_default
returns-in_default c = λ s t steps k part is next at are.
    let all = possible_space c.args.possible.now in
    let step = c.args.step.now in
    let none = rw c.in_default.is at c.in_ok-matched.ensures.none in (
      _,
      c.in_ok-push.ensures.items,
      whole_branch all s t steps c.args.self k step is next at are false _
          (none_matched all s t steps c.args.self k step is next at are part c.args.cube c.requires none) refl (λ d. refl)
          refl refl,
    )

-- ---- The walk of the choices that match.

its_wanted : (c : goal.Joined-branch-9)
    → c.in_ok-with_cube.field-0.items ≡ c.args.self.wanted.items ++ c.args.cube ∷ []
its_wanted c =
    c.in_ok-with_cube.ensures ∙ ap (λ cubes. cubes ++ c.args.cube ∷ []) c.as_slice.ensures.value

its_unwanted : (c : goal.Joined-branch-9)
    → c.in_ok-to_vec.field-0.items ≡ c.args.self.unwanted.items
its_unwanted c =
    c.in_ok-to_vec.ensures.items_if_clones_equal (λ x y h. h) ∙ c.as_slice-2.ensures.value

its_box : (c : goal.Joined-branch-9) → (d : List ℕ) → IsInBox c.args.self.within d
    → matches c.args.cube.now d ≡ true → IsInBox c.narrowed.result d
its_box c d inside may =
    c.narrowed.ensures.matched d
    (subst (λ (b : List (List Bool)). IsInBox b d) (sym c.in_ok-try_clone.ensures.same) inside) may

its_known : (c : goal.Joined-branch-9)
    → AreBoxesOf (possible_space c.args.possible.now) c.args.self
    → AreAllOn (possible_space c.args.possible.now) (c.args.self.wanted.items ++ c.args.cube ∷ [])
    c.args.self.unwanted.items c.in-Some.matched
its_known c boxes = (rw c.in-Some.is at c.in_ok-matched.ensures.some) boxes

pub returns : goal.returns
returns c = λ s t steps k part is next at are.
    let all = possible_space c.args.possible.now in
    let step = c.args.step.now in
    elim c.match-branch-9.branch [
      | in-Some-2+in_ok-push-3+in_ok-push-4+in-Some-1 w ↦ (
        _,
        ap (λ walks. walks.items) w.walks-is
            ∙ pushed_twice c.args.walks.now.items _ _ _ _ c.in_ok-push-2.ensures.items
            w.in_ok-push-4.ensures.items,
        both_branches all s t steps c.args.self k step is next at are _ _
            (matched_branch all s t steps c.args.self k step is next at are part c.args.cube c.requires _ refl
            (its_wanted c) (its_unwanted c) (its_box c) (its_known c is.boxes))
            (unmatched_branch all s t steps c.args.self k step is next at are part c.args.cube c.requires _ refl refl
            w.in_ok-push-3.ensures.items w.without.ensures.others
            ((rw w.in-Some-2.is at c.in_ok-some.ensures.some) is.boxes)),
      )
      | in-Some-2+in_ok-push-3+in_ok-push-4+in-None-1 w ↦ (
        _,
        ap (λ walks. walks.items) w.walks-is
            ∙ pushed_twice c.args.walks.now.items _ _ _ _ c.in_ok-push-2.ensures.items
            w.in_ok-push-4.ensures.items,
        both_branches all s t steps c.args.self k step is next at are _ _
            (matched_branch all s t steps c.args.self k step is next at are part c.args.cube c.requires _ refl
            (its_wanted c) (its_unwanted c) (its_box c) (its_known c is.boxes))
            (unmatched_branch all s t steps c.args.self k step is next at are part c.args.cube c.requires _ refl refl
            w.in_ok-push-3.ensures.items w.without.ensures.others
            ((rw w.in-Some-2.is at c.in_ok-some.ensures.some) is.boxes)),
      )
      | in_default-2+in-Some-1 w ↦
          let none = rw w.in_default-2.is at c.in_ok-some.ensures.none in (
            _,
            ap (λ walks. walks.items) w.walks-is ∙ c.in_ok-push-2.ensures.items,
            one_branch all s t steps c.args.self k step is next at are true _
                (all_matched all s t steps c.args.self k step is next at are part c.args.cube c.requires none)
                (matched_branch all s t steps c.args.self k step is next at are part c.args.cube c.requires _ refl
                (its_wanted c) (its_unwanted c) (its_box c) (its_known c is.boxes)),
          )
      | in_default-2+in-None-1 w ↦
          let none = rw w.in_default-2.is at c.in_ok-some.ensures.none in (
            _,
            ap (λ walks. walks.items) w.walks-is ∙ c.in_ok-push-2.ensures.items,
            one_branch all s t steps c.args.self k step is next at are true _
                (all_matched all s t steps c.args.self k step is next at are part c.args.cube c.requires none)
                (matched_branch all s t steps c.args.self k step is next at are part c.args.cube c.requires _ refl
                (its_wanted c) (its_unwanted c) (its_box c) (its_known c is.boxes)),
          )
    ]
