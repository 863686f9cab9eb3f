use Rattle.std.proofs.Common.{◌∷◌, [], ◌++◌, ℕ, List, Bool, Option, refl, ap, sym, ◌∙◌, subst}
use Rattle.std.specs.Prelude.{not}
use Rattle.am_judged_lists.specs.Boxes.{IsInBox}
use Rattle.am_outcomes.specs.Walks.{known_box, own_or}
use Rattle.am_outcomes.proofs.MissedChoices.{missed_at}
use Rattle.am_outcomes.proofs.WalkLemmas.{both_branches, matched_branch, unmatched_branch}
use Rattle.am_outcomes.proofs.WalkLemmas.{on_matched, on_unmatched, pushed_twice}
use Rattle.am_outcomes.proofs.walks.Walk.push_halves.Goals as goal

pub returns : goal.returns
returns c = λ all s t steps k part is next at are.
    let step = c.args.step.now in
    let walk = c.args.self in
    let cube = c.args.cube in
    let wanted = c.in_ok-with_cube.ensures
    ∙ ap (λ cubes. cubes ++ cube ∷ []) c.as_slice.ensures.value in
    let unwanted = c.in_ok-to_vec.ensures.items_if_clones_equal (λ x y h. h)
    ∙ c.as_slice-2.ensures.value in
    let known : (d : List ℕ) → IsInBox walk.within d → IsInBox (known_box walk) d =
    λ d there. subst (λ (o : Option (List (List Bool))). IsInBox (own_or o walk.within) d)
    (sym c.requires.whole) there in (
      _,
      pushed_twice c.args.walks.now.items _ _ _ _ c.in_ok-push.ensures.items
          c.in_ok-push-3.ensures.items,
      both_branches all s t steps walk k step is next at are _ _
          (matched_branch all s t steps walk k step is next at are part cube c.requires.cube _ refl
          wanted unwanted
          (λ d there may. (c.keep.ensures.choices d).1 (
            subst (λ (b : List (List Bool)). IsInBox b d) (sym c.in_ok-inside.ensures.same) there,
            sym (c.requires.alone d there) ∙ may,
          ))
          (on_matched all walk cube c.keep.new.self is.boxes (λ d inside.
          let old = (c.keep.ensures.choices d).0 inside in
          let there =
          subst (λ (b : List (List Bool)). IsInBox b d) c.in_ok-inside.ensures.same old.0 in
          (known d there, c.requires.alone d there ∙ old.1))))
          (unmatched_branch all s t steps walk k step is next at are part cube c.requires.cube _ refl
          refl c.in_ok-push-2.ensures.items
          (λ d there off. (c.keep-2.ensures.choices d).1
          (there, ap not (sym (c.requires.alone d there) ∙ off)))
          (on_unmatched all walk cube c.keep-2.new.self is.boxes (λ d inside.
          let old = (c.keep-2.ensures.choices d).0 inside in
          (known d old.0, missed_at cube.now d c.args.label old.1)))),
    )
