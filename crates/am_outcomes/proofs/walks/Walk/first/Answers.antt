use Rattle.std.proofs.Common.{◌↔◌, ℕ, List, [], Bor, sym, subst, ◌∙◌}
use Rattle.std.specs.Prelude.{IsTrue}
use Rattle.am_universe.specs.Universe.{Label, sizes}
use Rattle.am_universe.specs.Choice.{IsWhole}
use Rattle.am_labels.specs.Space.{IsChoiceOf}
use Rattle.am_judged_lists.specs.Boxes.{IsInBox}
use Rattle.am_judged_lists.specs.Cube.{MaskedLabels}
use Rattle.am_first_sets.specs.Meeting.{meets_cubes}
use Rattle.am_first_sets.specs.PossibleSets.{possible_space}
use Rattle.am_outcomes.proofs.FirstWalk.{whole_within}
use Rattle.am_outcomes.proofs.walks.Walk.first.Goals as goal

pub unless_all-requires : goal.unless_all-requires
unless_all-requires c = λ d inside.
    let s = possible_space c.args.possible.now in
    let all = c.in_ok-all.field-0 in
    let some = c.in-Some.some in
    subst (λ (u : List Label). IsWhole (sizes u) d) (sym c.requires)
    (whole_within s c.args.cube all some
    (subst (λ (u : List Label). (e : List ℕ) → IsInBox all e ↔ IsWhole (sizes u) e) c.requires
    c.in_ok-all.ensures.all)
    (subst (λ (cubes : List (Bor MaskedLabels)). (e : List ℕ) → IsInBox some e
    → IsChoiceOf s e × IsTrue (meets_cubes cubes [] e))
    (c.as_slice.ensures.value ∙ c.in_ok-wanted.ensures.items)
    (rw c.in-Some.is at c.in_ok-some.ensures.meeting))
    c.narrowed-within.result (rw c.in-Some.is at c.in_ok-some.ensures.some)
    c.narrowed-within.ensures.others d inside)
