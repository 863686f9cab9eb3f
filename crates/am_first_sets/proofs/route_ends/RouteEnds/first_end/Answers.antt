use Rattle.std.proofs.Common.{subst, false, ◌∙◌}
use Rattle.am_labels.specs.Space.{all_choices}
use Rattle.am_first_sets.specs.RouteEnds.{ends_space, ends_config}
use Rattle.am_first_sets.specs.ChoiceEnds.{is_end_at}
use Rattle.am_first_sets.specs.Meeting.{meets_cubes}
use Rattle.am_first_sets.specs.RouteCubes.{IsWayToEnd}
use Rattle.am_first_sets.proofs.CubeEnds.{ends_as}
use Rattle.am_first_sets.proofs.FirstPossible.{find_none, found_alike, found_of_space}
use Rattle.am_first_sets.proofs.MeetingLemmas.{if_ok_more}
use Rattle.am_first_sets.proofs.route_ends.RouteEnds.first_end.Goals as goal

pub returns-clause-first : goal.returns-clause-first
returns-clause-first c =
    let self = c.args.self.now in
    let s = ends_space self in
    let path = c.args.path.now in
    let way = c.in-Some.way in
    let to_end = subst (IsWayToEnd self.routes path) c.in-Some.is c.in_ok-way.ensures.way in
    if_ok_more c.first_of_all.result _ _
    (λ found first.
    first
    ∙ found_alike s (meets_cubes way.wanted.items way.unwanted.items)
    (is_end_at s.labels (ends_config self) path)
    (λ d is. to_end d
    ∙ ends_as s.labels (ends_config self) self.routes path d is.0 (self.knows_routes d is.0)))
    (rw (c.as_slice.ensures.value, c.as_slice-2.ensures.value) at c.first_of_all.ensures.first)

pub returns-in_default-clause-first : goal.returns-in_default-clause-first
returns-in_default-clause-first c =
    let self = c.args.self.now in
    let s = ends_space self in
    let path = c.args.path.now in
    let to_end = subst (IsWayToEnd self.routes path) c.in_default.is c.in_ok-way.ensures.way in
    find_none (all_choices s)
    ∙ found_alike s (λ d. false) (is_end_at s.labels (ends_config self) path)
    (λ d is. to_end d
    ∙ ends_as s.labels (ends_config self) self.routes path d is.0 (self.knows_routes d is.0))

pub returns-clause-possible : goal.returns-clause-possible
returns-clause-possible c =
    let self = c.args.self.now in
    let s = ends_space self in
    if_ok_more c.first_of_all.result _ _
    (λ found first.
    found_of_space s (is_end_at s.labels (ends_config self) c.args.path.now) found first)
    (returns-clause-first c)
