use Rattle.std.proofs.Common.{◌≡◌, ◌++◌, ◌∷◌, ℕ, [], map, length, get_or, sym, ap, ◌∙◌, arith}
use Rattle.std.specs.List.{filter_map, range_with_len}
use Rattle.std.specs.Global.{Vec}
use Rattle.std.proofs.lemmas.List.{length-map, map_push}
use Rattle.std.proofs.lemmas.List.FromFn.{map-range_with_len_more, length-map-range_with_len, get_or-map-range_with_len}
use Rattle.std.proofs.lemmas.Option.{slice_get_within}
use Rattle.am_config.specs.ConfigView.{config_view}
use Rattle.am_eval.specs.Routing.{receiver_at}
use Rattle.am_alerts.specs.RouteEnds.{ends_of}
use Rattle.am_alerts.proofs.outcomes.receivers_of_all.Goals as goal

pub loop-alert-preserved : goal.loop-alert-preserved
loop-alert-preserved c =
    let receivers = filter_map (receiver_at (config_view c.args.config.now)) in
    let alert = c.loop-alert.alert in
    let items = λ (v : Vec ℕ). v.items in
    ap (map items) c.in_ok-push.ensures.items
    ∙ map_push items c.loop-alert.found.items c.in_ok-receivers_of.field-0
    ∙ (λ j. c.loop-alert.invariant j ++ c.in_ok-receivers_of.ensures j ∷ [])
    ∙ sym (map-range_with_len_more (λ i. receivers (ends_of c.args.rows.now i)) 0 alert alert (omega arith))

pub returns : goal.returns
returns c = λ alerts count are.
    let receivers = filter_map (receiver_at (config_view c.args.config.now)) in
    let each = λ (i : ℕ). receivers (ends_of c.args.rows.now i) in
    let n = c.args.count in
    let found = c.loop-alert.found.items in
    let whole : c.loop-alert.alert ≡ n =
    omega (arith, c.loop-alert-test.false, c.loop-alert.auto.alert-end) in
    let all : map (λ v. v.items) found ≡ map each (range_with_len 0 n) =
    c.loop-alert.invariant ∙ ap (λ k. map each (range_with_len 0 k)) whole in (
      sym (length-map found (λ v. v.items)) ∙ ap length all ∙ length-map-range_with_len each 0 n ∙ count,
      λ i s at. ap (λ lists. get_or lists i []) all
          ∙ get_or-map-range_with_len each 0 n i i [] (omega (arith, slice_get_within alerts i s at, count)) (omega arith)
          ∙ ap receivers (are i s at),
    )
