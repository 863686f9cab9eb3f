-- Matchers with the cubes that they borrow.
use Rattle.std.proofs.Common.{◌≡◌, ◌+◌, ◌-◌, ℕ, List, [], ◌∷◌, Some, map, take, drop, slice_get}
use Rattle.std.proofs.Common.{sym, ap, ◌∙◌, subst, arith}
use Rattle.std.specs.Prelude.{slice_range}
use Rattle.std.specs.List.{AllByRecursion}
use Rattle.std.proofs.lemmas.Simd.{map-map}
use Rattle.am_universe.specs.Universe.{Label}
use Rattle.am_universe.proofs.ListLemmas.{IsIn, IsIn-map, AllByRecursion-at, AllByRecursion-each}
use Rattle.am_universe.proofs.Members.{left_at}
use Rattle.am_route_alerts.specs.declared.matcher_cubes.KnownMatcher.{KnownMatcher}
use Rattle.am_route_alerts.specs.declared.matcher_cubes.MatcherCube.{MatcherCube}
use Rattle.am_route_alerts.specs.MatcherCubes.{matcher_cube, AreEachCubes}
use Rattle.am_route_alerts.proofs.LiteralRoutes.{IsOwnCube}

pub each_known : (u : List Label) (found : List KnownMatcher) (cubes : List MatcherCube)
    → map matcher_cube found ≡ cubes → AllByRecursion (IsOwnCube u) cubes → AreEachCubes u found
each_known u found cubes are own =
    AllByRecursion-each _ found (λ known i.
    AllByRecursion-at (IsOwnCube u) cubes (matcher_cube known) own
    (subst (λ ms. IsIn ms (matcher_cube known)) are (IsIn-map matcher_cube found known i)))

pub known_matchers : (found : List KnownMatcher) (cubes : List MatcherCube)
    → map matcher_cube found ≡ cubes
    → map (λ known. known.matcher.now) found ≡ map (λ m. m.matcher.now) cubes
known_matchers found cubes are =
    sym (map-map (λ (m : MatcherCube). m.matcher.now) matcher_cube found)
    ∙ ap (map (λ (m : MatcherCube). m.matcher.now)) are

-- the range of one position
pub one_ranged : {X : Type 0} (xs : List X) (i : ℕ) (x : X) → slice_get xs i ≡ Some x
    → slice_range xs i (i + 1) ≡ x ∷ []
one_ranged xs i x at =
    let one : i + 1 - i ≡ 1 = omega arith in
    ap (λ n. take n (drop i xs)) one ∙ ap (take 1) (left_at xs i x at)
