-- One more route has its cubes.
use Rattle.std.proofs.Common.{◌≡◌, ◌+◌, ◌++◌, ◌∷◌, [], ℕ, List, length, take}
use Rattle.std.proofs.Common.{refl, ap, sym, ◌∙◌, subst, Some, Bor}
use Rattle.std.specs.Prelude.{slice_get}
use Rattle.std.specs.Global.{Vec}
use Rattle.std.specs.List.{AllZip}
use Rattle.std.proofs.lemmas.Option.{slice_get_read}
use Rattle.std.proofs.lemmas.Slice.Zip.{all_zipped_more}
use Rattle.am_labels.specs.Matcher.{Matcher}
use Rattle.am_config.specs.declared.route.Route.{Route}
use Rattle.am_config.specs.ConfigFile.{RouteTree, matchers_of}
use Rattle.am_config.specs.ConfigView.{config_view}
use Rattle.am_config.specs.RoutePaths.{all_routes}
use Rattle.am_config.specs.RouteView.{route_view}
use Rattle.am_complete.proofs.Pushed.{one_longer, zip_left}
use Rattle.am_route_alerts.specs.declared.matcher_cubes.MatcherCube.{MatcherCube}
use Rattle.am_route_alerts.specs.MatcherCubes.{AreCubesOf}
use Rattle.am_route_alerts.proofs.ZipLists.{zip_from_images}
use Rattle.am_route_alerts.proofs.matcher_cubes.cubes_of_routes.Goals as goal

pub loop-route-preserved : goal.loop-route-preserved
loop-route-preserved c =
    let u = c.args.universe.now in
    let all = all_routes (config_view c.args.config.now) in
    let routes = c.in_ok-listed.listed.routes.items in
    let i = c.loop-route.route-index in
    let r = c.route-item.result in
    let found = c.in_ok-cubes_of.field-0 in
    let Are : List ℕ × RouteTree → Vec MatcherCube → Type 0 =
    λ route some. AreCubesOf u (matchers_of route.1) some.items in
    let at : slice_get routes i ≡ Some r =
    ap (λ rs. slice_get rs i) (sym c.deref-route-items.ensures.value)
    ∙ slice_get_read c.deref-route-items.result.now (length c.deref-route-items.result.now) i r
    refl c.loop-route-test.true c.route-item.is in
    let tree : Bor Route → RouteTree = λ b. route_view b.now in
    let route = zip_left (λ b (l : List ℕ × RouteTree). tree b ≡ l.1) routes all i r
    (zip_from_images tree (λ (l : List ℕ × RouteTree). l.1) routes all
    c.in_ok-listed.ensures.routes.routes) at in
    let is : Are route.0 found =
    subst (λ (ms : List Matcher). AreCubesOf u ms found.items)
    (c.matchers.ensures.matchers ∙ ap matchers_of route.2) c.in_ok-cubes_of.ensures.cubes in
    subst (AllZip Are (take (i + 1) all))
    (sym {A = List (Vec MatcherCube)} c.in_ok-push.ensures.items)
    (subst (λ (rs : List (List ℕ × RouteTree)). AllZip Are rs
    (c.loop-route.cubes.items ++ found ∷ []))
    (one_longer all i route.0 route.1)
    (all_zipped_more Are (take i all) c.loop-route.cubes.items route.0 found
    c.loop-route.invariant is))
