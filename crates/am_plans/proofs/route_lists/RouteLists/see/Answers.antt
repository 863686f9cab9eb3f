use Rattle.std.proofs.Common.{◌≡◌, ◌<◌, ℕ, not, ap, ◌∙◌}
use Rattle.am_eval.specs.declared.reach.Reach.{Reach}
use Rattle.am_eval.specs.declared.reach.Reach.TheVariants.{Ends, Enters}
use Rattle.am_judged_lists.specs.declared.certainty.Certainty.{Certainty}
use Rattle.am_judged_lists.specs.declared.certainty.Certainty.TheVariants.{May, Must}
use Rattle.am_judged_lists.specs.declared.cube_set.TheConstants.{MAX_CUBES}
use Rattle.am_judged_lists.specs.Certainty.{other}
use Rattle.am_judged_lists.specs.CubeSetView.{contains}
use Rattle.am_plans.specs.declared.route_lists.RoutesSeen.{RoutesSeen}
use Rattle.am_plans.specs.RoutesByWays.{reached_at, reached_of, set_of, passing_at}
use Rattle.am_plans.proofs.RouteMade.{apart_same, reached_same}
use Rattle.am_plans.proofs.route_lists.RouteLists.see.Goals as goal

each : (P : Certainty → Reach → Type 0) → ((reach : Reach) → P May reach)
    → ((reach : Reach) → P Must reach) → (m : Certainty) (reach : Reach) → P m reach
each P may must May = may
each P may must Must = must

both : (P : Reach → Type 0) → P Enters → P Ends → (reach : Reach) → P reach
both P enters ends Enters = enters
both P enters ends Ends = ends

pub returns : goal.returns
returns c =
    let prefix = c.args.prefix.now in
    let lists = c.args.self.now.lists in
    let ways = c.args.self.now.ways.items in
    let seen : RoutesSeen = record { may = c.reached.result; must = c.reached-2.result } in
    let by_lists = λ (m : Certainty) (reach : Reach). reached_at (passing_at prefix m lists) (passing_at prefix (other m) lists) reach ways in
    let P = λ (m : Certainty) (reach : Reach). (k : ℕ) → k < MAX_CUBES
    → contains (set_of (reached_of seen m) reach) k ≡ by_lists m reach k in
    let p = contains c.passing-may.result in
    let q = contains c.passing-must.result in
    let r = passing_at prefix May lists in
    let s = passing_at prefix Must lists in
    let may : (k : ℕ) → k < MAX_CUBES → p k ≡ r k = c.passing-may.ensures.passing in
    let must : (k : ℕ) → k < MAX_CUBES → q k ≡ s k = c.passing-must.ensures.passing in
    let exact = each P
    (both (P May)
    (λ k h. c.reached.ensures.entered k h ∙ reached_same p q r s Enters ways may must k h)
    (λ k h. c.reached.ensures.ended k h ∙ reached_same p q r s Ends ways may must k h))
    (both (P Must)
    (λ k h. c.reached-2.ensures.entered k h ∙ reached_same q p s r Enters ways must may k h)
    (λ k h. c.reached-2.ensures.ended k h ∙ reached_same q p s r Ends ways must may k h)) in
    λ m reach routes. ap not (apart_same (contains routes) (contains (set_of (reached_of seen m) reach)) (by_lists m reach) (exact m reach))
