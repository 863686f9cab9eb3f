-- What the literals say before and after some of them lose their names, and what is kept.
use Rattle.std.proofs.Common.{List, [], Bor, length, map, take, sym, ap, ◌∙◌, subst}
use Rattle.std.specs.Prelude.{is_some}
use Rattle.std.specs.Global.{Vec}
use Rattle.std.specs.List.{flat_map}
use Rattle.am_labels.specs.Matcher.{Matcher}
use Rattle.am_eval.specs.Reaching.{EndsAt}
use Rattle.am_first_sets.specs.declared.candidate.Candidate.{Candidate}
use Rattle.am_first_sets.specs.PossibleChoices.{IsPossible}
use Rattle.am_first_sets.specs.Reason.{AreNamedBefore}
use Rattle.am_first_sets.proofs.ReasonLemmas.{met_if, unmet_if}
use Rattle.am_lint.specs.Table.{table_space, table_config}
use Rattle.am_lint.proofs.ArrivalSteps.{known_of}
use Rattle.am_lint.proofs.LiteralTruth.{AreFront, all_named}
use Rattle.am_route_alerts.specs.MatcherCubes.{MeetsAll, cubes_at}
use Rattle.am_route_alerts.specs.Shortened.{IsShortened}
use Rattle.am_route_alerts.proofs.EndLemmas.{none_end, which_end}
use Rattle.am_route_alerts.proofs.KnownMatchers.{each_known, known_matchers}
use Rattle.am_route_alerts.proofs.LiteralRoutes.{AreOfRoutes, literals_of_routes, fewer_of_routes}
use Rattle.am_route_alerts.proofs.LiteralRoutes.{own_about, way_cubes}
use Rattle.am_route_alerts.proofs.LiteralsHold.{named_in_front}
use Rattle.am_route_alerts.proofs.end_matchers.end_matchers.Goals as goal
use Rattle.am_route_alerts.proofs.end_matchers.end_matchers.Goals.{After-as_mut_slice-all}
use Rattle.am_route_alerts.proofs.end_matchers.end_matchers.Goals.{In_ok-leave_out_implied}

-- what the literals say
front : (c : After-as_mut_slice-all) → AreFront (table_space c.args.table.now)
    c.as_mut_slice-all.result.now (EndsAt (table_config c.args.table.now) c.args.path.now)
front c =
    rw c.as_mut_slice-all.ensures.value
    (known_of _ (table_config c.args.table.now) _ c.requires.knows _ c.requires.there _
    c.in_ok-literals.ensures).ending

-- and which routes they are about
of : (c : After-as_mut_slice-all) → AreOfRoutes (table_space c.args.table.now).labels
    (table_config c.args.table.now) c.args.path.now c.in_ok-literals.literals.on_way
    c.as_mut_slice-all.result.now
of c =
    rw c.as_mut_slice-all.ensures.value
    (literals_of_routes _ (table_config c.args.table.now) _ c.requires.knows _ _
    c.in_ok-literals.ensures)

pub returns-in_default : goal.returns-in_default
returns-in_default c =
    let literals = c.as_mut_slice-all.result.now in
    record {
      ends = none_end (table_space c.args.table.now) (IsPossible c.choices-possible.result.now)
          c.choices-possible.ensures (table_config c.args.table.now) c.args.path.now literals
          (front (goal.at.returns-in_default c).After-as_mut_slice-all)
          (unmet_if (IsPossible c.choices-possible.result.now) literals c.in_ok-found.field-0
          c.in_ok-found.ensures.none (ap is_some c.in_default.is));
    }

pub shortened-requires-clause-cubes : goal.shortened-requires-clause-cubes
shortened-requires-clause-cubes c =
    rw c.as_slice.ensures.value (each_known _ _ _ c.in_ok-on_way.ensures.cubes
    (own_about (table_space c.args.table.now).labels (table_config c.args.table.now)
    c.args.cubes.now c.requires.cubes _))

-- the literals of the way are named
before : (c : In_ok-leave_out_implied) → AreNamedBefore c.in_ok-literals.literals.on_way
    c.leave_out_implied.new.literals
before c =
    c.in_ok-leave_out_implied.ensures.first
    (all_named _ _ _ c.in_ok-literals.literals.on_way
    (front (goal.at.In_ok-leave_out_implied c).After-as_mut_slice-all))

pub kept_lists-requires-clause-named : goal.kept_lists-requires-clause-named
kept_lists-requires-clause-named c =
    let n = c.in_ok-literals.literals.on_way in
    let new = c.leave_out_implied.new.literals in
    subst (λ (ks : List Candidate). AreNamedBefore (length ks) ks) (sym c.split_at.ensures.front)
    (named_in_front n (length (take n new)) new
    (before (goal.at.kept_lists-requires-clause-named c).In_ok-leave_out_implied))

pub returns : goal.returns
returns c =
    let s = table_space c.args.table.now in
    let config = table_config c.args.table.now in
    let path = c.args.path.now in
    let cubes = c.args.cubes.now in
    let old = c.as_mut_slice-all.result.now in
    let n = c.in_ok-literals.literals.on_way in
    let new = c.leave_out_implied.new.literals in
    let possible = IsPossible c.choices-possible.result.now in
    let about = fewer_of_routes s.labels config path n old new
    c.in_ok-leave_out_implied.ensures.fewer
    (of (goal.at.returns c).After-as_mut_slice-all) in
    let matchers = map (λ (m : Bor Matcher). m.now) c.in_ok-matchers.matchers.items in
    let lists = map (λ (list : Vec (Bor Matcher)). map (λ (m : Bor Matcher). m.now) list.items)
    c.in_ok-unless.unless.items in
    let way = ap (map (λ known. known.matcher.now)) c.as_slice.ensures.value
    ∙ known_matchers c.in_ok-on_way.on_way.items
    (flat_map (λ (k : Candidate). cubes_at cubes k.tag) (take n new))
    (rw c.split_at.ensures.front at c.in_ok-on_way.ensures.cubes)
    ∙ way_cubes s.labels config cubes c.requires.cubes path n new about in
    record {
      ends = which_end s possible c.choices-possible.ensures config path old
          (front (goal.at.returns c).After-as_mut_slice-all) n new about
          (before (goal.at.returns c).In_ok-leave_out_implied)
          c.in_ok-leave_out_implied.ensures.same c.in_ok-leave_out_implied.ensures.needed cubes
          c.requires.cubes matchers
          (subst (λ (ms : List Matcher). IsShortened (MeetsAll s []) ms matchers) way
          c.in_ok-matchers.ensures.shortened)
          lists
          (rw (c.split_at.ensures.front, c.split_at.ensures.back) at c.in_ok-unless.ensures.lists)
          (met_if possible old c.in_ok-found.field-0 c.in_ok-found.ensures.some
          (ap is_some c.in-Some.is));
    }
