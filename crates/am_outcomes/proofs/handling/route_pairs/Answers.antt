use Rattle.std.proofs.Common.{◌≡◌, ◌+◌, Some, slice_get, drop, option_map, ap, sym, ◌∙◌}
use Rattle.std.specs.List.{find}
use Rattle.std.proofs.lemmas.List.{map_push}
use Rattle.std.proofs.lemmas.Option.{slice_get-get_or}
use Rattle.am_universe.proofs.Members.{left_at}
use Rattle.am_config.specs.ConfigFile.{receiver_of}
use Rattle.am_config.specs.ConfigView.{config_view}
use Rattle.am_config.specs.RouteView.{route_view}
use Rattle.am_report_texts.specs.ReceiverNames.{receiver_name}
use Rattle.am_outcomes.specs.Handling.{has_receiver, without_first}
use Rattle.am_outcomes.specs.OutcomesView.{pairs_view, routes_view}
use Rattle.am_outcomes.proofs.RoutePairs.{pair_found, no_pair}
use Rattle.am_outcomes.proofs.handling.route_pairs.Goals as goal
use Rattle.am_outcomes.proofs.handling.route_pairs.Goals.{in-Some+in_ok-push+in_ok-left-2}
use Rattle.am_outcomes.proofs.handling.route_pairs.Goals.{in_default}

pub loop-route-preserved : goal.loop-route-preserved
loop-route-preserved c =
    let old = config_view c.args.old.now in
    let new = config_view c.args.new.now in
    let i = c.loop-route.route-index in
    let route = c.route-item.result in
    let at : slice_get c.args.before.now i ≡ Some route =
    slice_get-get_or c.args.before.now i route c.loop-route-test.true
    ∙ ap Some (sym c.route-item.is) in
    let so_far = rw (left_at c.args.before.now i route at) at c.loop-route.invariant in
    let name : c.receiver_name-name.result.now
    ≡ receiver_name old (receiver_of (route_view route.now)) =
    c.receiver_name-name.ensures.name ∙ ap (receiver_name old) c.receiver.ensures.receiver in
    let found : option_map (λ r. route_view r.now) c.first_with.result
    ≡ find (has_receiver new (receiver_name old (receiver_of (route_view route.now))))
    (routes_view c.loop-route.left.items) =
    c.first_with.ensures
    ∙ (λ j. find (has_receiver new (name j)) (routes_view (c.as_slice.ensures.value j))) in
    elim c.match-first_with.branch [
      | in-Some+in_ok-push+in_ok-left-2 w ↦
          rw (w.pairs-is, w.in_ok-push.ensures.items, map_push, w.left-is)
          (pair_found old new (pairs_view c.loop-route.pairs.items) (route_view route.now)
          (routes_view (drop (i + 1) c.args.before.now)) (routes_view c.loop-route.left.items) _ so_far
          (route_view w.in-Some.other.now) _
          (sym found ∙ ap (option_map (λ r. route_view r.now)) w.in-Some.is)
          (w.in_ok-left-2.ensures
          ∙ (λ j. without_first (has_receiver new (name j))
          (routes_view (w.as_slice-in-Some.ensures.value j)))))
      | in_default w ↦
          rw (w.pairs-is, w.left-is)
          (no_pair old new (pairs_view c.loop-route.pairs.items) (route_view route.now)
          (routes_view (drop (i + 1) c.args.before.now)) (routes_view c.loop-route.left.items) _ so_far
          (sym found ∙ ap (option_map (λ r. route_view r.now)) w.in_default.is))
    ]
