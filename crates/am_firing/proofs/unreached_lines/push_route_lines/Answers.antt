-- One more route, which is unreached or not.
use Rattle.std.proofs.Common.{◌≡◌, ◌+◌, ◌++◌, [], ◌∷◌, take, map, ap, sym, ◌∙◌}
use Rattle.std.proofs.lemmas.List.{map-append}
use Rattle.am_config.specs.ConfigView.{config_view}
use Rattle.am_report_texts.specs.LineView.{line_view}
use Rattle.am_report_texts.proofs.PieceSteps.{item_here}
use Rattle.am_lint.specs.FoundView.{said_of}
use Rattle.am_firing.specs.Reach.{leads_to, paths_of}
use Rattle.am_firing.specs.Unreached.{is_unreached}
use Rattle.am_firing.specs.FiringLines.{route_line}
use Rattle.am_firing.proofs.Inhibiting.{one_longer}
use Rattle.am_firing.proofs.Kept.{one_kept, none_kept}
use Rattle.am_firing.proofs.unreached_lines.push_route_lines.Goals as goal
use Rattle.am_firing.proofs.unreached_lines.push_route_lines.Goals.{then-branch+in_ok-route_line+in_ok-push, else-branch}

pub loop-route-preserved : goal.loop-route-preserved
loop-route-preserved c =
    let routes = c.args.routes.now in
    let i = c.loop-route.route-index in
    let route = c.route-item.result in
    let line = route_line c.args.whose (config_view c.args.config.now) (map said_of routes) in
    let test = is_unreached (leads_to (paths_of c.args.ends.now)) in
    let before = map said_of (take i routes) in
    let more : map said_of (take (i + 1) routes) ≡ before ++ said_of route ∷ [] =
    ap (map said_of) (one_longer routes i route (item_here routes i route c.loop-route-test.true c.route-item.is))
    ∙ map-append said_of (take i routes) (route ∷ []) in
    rw more (elim c.if-branch.branch [
      | then-branch+in_ok-route_line+in_ok-push v ↦
          one_kept line test before (said_of route) _ _ _ c.loop-route.invariant
          (sym c.in_ok-is_unreached.ensures ∙ v.if-branch.true)
          (ap (λ ls. map line_view ls.items) v.lines-is ∙ ap (map line_view) v.in_ok-push.ensures.items
          ∙ map-append line_view c.loop-route.lines.items (v.in_ok-route_line.field-0 ∷ [])
          ∙ ap (λ l. map line_view c.loop-route.lines.items ++ l ∷ []) v.in_ok-route_line.ensures)
      | else-branch v ↦
          none_kept line test before (said_of route) _ _ _ c.loop-route.invariant
          (sym c.in_ok-is_unreached.ensures ∙ v.if-branch.false)
          (ap (λ ls. map line_view ls.items) v.lines-is)
    ])
