-- The first choice among those that are possible by the cubes.
use Rattle.std.proofs.Common.{◌∙◌, ap, slice_get}
use Rattle.am_labels.specs.Space.{all_choices}
use Rattle.am_first_sets.specs.PossibleSets.{possible_space}
use Rattle.am_first_sets.proofs.FirstPossible.{no_first}
use Rattle.am_first_sets.proofs.MeetingLemmas.{any_first, if_ok_more}
use Rattle.am_first_sets.proofs.possible_sets.first_possible.Goals as goal

pub returns-clause-first : goal.returns-clause-first
returns-clause-first c =
    if_ok_more c.first_of_all.result _ _
    (λ found first.
    first ∙ any_first (all_choices (possible_space c.in_ok-of.field-0))
    ∙ ap (λ s. slice_get (all_choices s) 0) c.in_ok-of.ensures.space)
    c.first_of_all.ensures.first

pub returns-clause-none : goal.returns-clause-none
returns-clause-none c =
    if_ok_more c.first_of_all.result _ _
    (λ found first. no_first (all_choices c.args.space.now) found first) (returns-clause-first c)
