use Rattle.std.proofs.Common.{◌≡◌, ◌<◌, ℕ, List, ◌++◌, [], ◌∷◌, length, take, sym, ap, ◌∙◌, map, arith}
use Rattle.std.proofs.lemmas.List.{length-map, take_all, map_more}
use Rattle.std.proofs.lemmas.Option.{slice_get_within, get_or_from_slice_get}
use Rattle.am_config.specs.ConfigFile.{RouteTree}
use Rattle.am_config.specs.ConfigView.{config_view}
use Rattle.am_config.specs.RoutePaths.{all_routes}
use Rattle.am_config.specs.RouteView.{route_view}
use Rattle.am_config.proofs.RouteLists.{listed_at}
use Rattle.am_first_sets.specs.RouteEnds.{ends_config}
use Rattle.am_coverage.specs.Coverage.{first_end}
use Rattle.am_coverage.specs.FirstEnds.{first_end_of}
use Rattle.am_coverage.specs.declared.first_ends.FirstEnd.{FirstEnd}
use Rattle.am_coverage.proofs.first_ends.first_ends.Goals as goal

pub loop-i-preserved : goal.loop-i-preserved
loop-i-preserved c =
    let s = c.args.space.now in
    let config = config_view c.args.config.now in
    let all = all_routes config in
    let listed = c.in_ok-listed.listed in
    let i = c.loop-i.i in
    let path = c.index.result.now in
    let lt : i < length listed.paths.items = omega (arith, c.len-i-end.ensures, c.loop-i-test.true) in
    let there = listed_at all listed i path c.index-in-loop-i.result.now c.in_ok-listed.ensures.routes
    lt c.index.ensures c.index-in-loop-i.ensures in
    let is : c.in_ok-first_end.field-0 ≡ first_end s config path =
    c.in_ok-first_end.ensures.first
    ∙ ap (λ v. first_end v (ends_config c.in_ok-ends.ends) path) c.in_ok-ends.ensures.space
    ∙ ap (λ v. first_end s v path) c.in_ok-ends.ensures.config in
    let found : List ℕ × RouteTree = (path, route_view c.index-in-loop-i.result.now.now) in
    let make = first_end_of s config in
    let end : FirstEnd =
    record { path = path; receiver = c.receiver.result; choice = c.in_ok-first_end.field-0 } in
    let made : end ≡ make found =
    λ k. record { path = path; receiver = c.receiver.ensures.receiver k; choice = is k } in
    c.in_ok-push.ensures.items ∙ (λ k. c.loop-i.invariant k ++ made k ∷ [])
    ∙ ap (λ f. map make (take i all) ++ make f ∷ []) (sym (get_or_from_slice_get all i found found there))
    ∙ sym (map_more make all i found (slice_get_within all i found there))

pub returns : goal.returns
returns c =
    let config = config_view c.args.config.now in
    let all = all_routes config in
    let long = ap length c.in_ok-listed.ensures.routes.paths ∙ length-map all (λ r. r.0) in
    record {
      ends = c.loop-i.invariant
          ∙ ap (map (first_end_of c.args.space.now config)) (take_all c.loop-i.i all
          (omega (arith, long, c.len-i-end.ensures, c.loop-i-test.false)));
    }
