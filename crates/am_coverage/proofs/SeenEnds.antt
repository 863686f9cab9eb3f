-- What the first ends of all routes tell of each route and receiver, and that it can be shown.
use Rattle.std.proofs.Common.{◌≡◌, ℕ, zero, suc, ◌+◌, ◌≤◌, List, [], ◌∷◌, map, length, Option, Some}
use Rattle.std.proofs.Common.{None, Bool, refl, sym, ap, ◌∙◌, inl, inr, arith}
use Rattle.std.specs.Prelude.{is_some, ◌&&◌, ◌||◌, ◌==◌}
use Rattle.std.specs.List.{AllByRecursion, list_any, filter, fold, range_with_len}
use Rattle.std.proofs.lemmas.Bool.{cases_Bool}
use Rattle.std.proofs.lemmas.Grind.{common_steps}
use Rattle.std.proofs.lemmas.Option.{IfSome_then}
use Rattle.am_universe.specs.Universe.{sizes}
use Rattle.am_universe.proofs.ListLemmas.{IsIn}
use Rattle.am_universe.proofs.UniverseLemmas.{list_any-map}
use Rattle.am_labels.specs.Space.{Space}
use Rattle.am_config.specs.ConfigFile.{Configuration, RouteTree}
use Rattle.am_config.specs.Path.{leads_through, route_at}
use Rattle.am_config.specs.RoutePaths.{all_routes, paths_of}
use Rattle.am_config.proofs.RouteLists.{each_at}
use Rattle.am_eval.specs.Conditions.{is_receiver}
use Rattle.am_first_sets.proofs.FirstPossible.{found_of_space}
use Rattle.am_coverage.specs.declared.coverage.RouteCoverage.{RouteCoverage}
use Rattle.am_coverage.specs.declared.coverage.RouteCoverage.TheVariants as route_is
use Rattle.am_coverage.specs.declared.first_ends.FirstEnd.{FirstEnd}
use Rattle.am_coverage.specs.declared.route_coverage.RouteFound.{RouteFound}
use Rattle.am_coverage.specs.Coverage.{first_end, first_entry, first_receipt, live_or, dead_route}
use Rattle.am_coverage.specs.Coverage.{route_coverage}
use Rattle.am_coverage.specs.CoverageView.{route_found, receiver_found, IsShown, IsShownRoute}
use Rattle.am_coverage.specs.CoverageView.{IsShownReceiver}
use Rattle.am_coverage.specs.FirstEnds.{first_end_of, first_ends, is_entered, coverage_by, earlier}
use Rattle.am_coverage.specs.FirstEnds.{earliest, earliest_to}
use Rattle.am_coverage.proofs.EarliestFound.{or_nothing}
use Rattle.am_coverage.proofs.FirstEndLaws.{entry_is_earliest, receipt_is_earliest}
use Rattle.am_coverage.specs.Report.{IsCoverage}
use Rattle.am_coverage.proofs.CoverageLaws.{covered}

-- ---- There is an earliest choice exactly if there is some choice.

some_of_two : (o other : Option (List ℕ))
    → is_some (earlier o other) ≡ (is_some o || is_some other)
some_of_two None other = refl
some_of_two (Some x) None = refl
some_of_two (Some x) (Some y) = grind (arith, common_steps, cases_Bool)

some_of_all : (o : Option (List ℕ)) (os : List (Option (List ℕ)))
    → is_some (fold earlier o os) ≡ (is_some o || list_any is_some os)
some_of_all o [] = sym (or_nothing (is_some o))
some_of_all o (first ∷ os) =
    grind (arith, common_steps, some_of_all (earlier o first) os, some_of_two)

-- ---- Lists.

any_kept : {X : Type 0} (test keep : X → Bool) (xs : List X)
    → list_any (λ x. test x && keep x) xs ≡ list_any test (filter keep xs)
any_kept test keep [] = refl
any_kept test keep (x ∷ xs) = grind (arith, common_steps, cases_Bool, any_kept test keep xs)

made_alike : {X Y Z P : Type 0} (f : X → Y) (g : Y → Z) (p : X → P) (h : P → Z) (xs : List X)
    → ((x : X) → g (f x) ≡ h (p x)) → map g (map f xs) ≡ map h (map p xs)
made_alike f g p h [] same = refl
made_alike f g p h (x ∷ xs) same = λ i. same x i ∷ made_alike f g p h xs same i

-- a route, with its coverage by its first end and those of all
abbrev pub found_by : List FirstEnd → FirstEnd → RouteFound
found_by ends end = record { path = end.path; coverage = coverage_by ends end }

module _ (s : Space) (c : Configuration) where
  -- ---- Routes.

  entered_alike : (path : List ℕ)
      → is_entered (first_ends s c) path ≡ is_some (first_entry s c path)
  entered_alike path =
      let chosen = λ (p : List ℕ). is_some (first_end s c p) in
      let there = λ (p : List ℕ). chosen p && leads_through path p in
      list_any-map _ (first_end_of s c) (all_routes c)
      ∙ sym (list_any-map there (λ (found : List ℕ × RouteTree). found.0) (all_routes c))
      ∙ any_kept chosen (leads_through path) (paths_of c)
      ∙ sym (list_any-map is_some (first_end s c) (filter (leads_through path) (paths_of c)))
      ∙ sym (some_of_all None (map (first_end s c) (filter (leads_through path) (paths_of c))))
      ∙ ap is_some (sym (entry_is_earliest s c path))

  pub routes_alike : map (found_by (first_ends s c)) (first_ends s c)
      ≡ map (route_found s c) (paths_of c)
  routes_alike =
      made_alike (first_end_of s c) (found_by (first_ends s c)) (λ found. found.0) (route_found s c)
      (all_routes c) (λ found.
      ap (λ b. record {
        path = found.0;
        coverage = live_or (dead_route b) (first_end s c found.0);
      }) (entered_alike found.0))

  pub routes_shown : (paths : List (List ℕ))
      → AllByRecursion (IsShownRoute (sizes s.labels)) (map (route_found s c) paths)
  routes_shown [] = tt
  routes_shown (path ∷ paths) =
      (by (route_coverage s c path) (covered s c path), routes_shown paths)
    where
      by : (coverage : RouteCoverage) → IsCoverage s c path coverage
          → IsShown (sizes s.labels) coverage
      by (route_is.Live choice) first = first.possible.0
      by route_is.Entered so = tt
      by route_is.NeverEntered so = tt

  -- ---- Receivers.

  kept_alike : (receiver : ℕ) (all : List (List ℕ × RouteTree))
      → ((found : List ℕ × RouteTree) → IsIn all found → route_at c.root found.0 ≡ Some found.1)
      → map (λ end. end.choice) (filter (λ end. end.receiver == receiver) (map (first_end_of s c) all))
      ≡ map (first_end s c) (filter (λ path. is_receiver receiver (route_at c.root path))
      (map (λ found. found.0) all))
  kept_alike receiver [] at = refl
  kept_alike receiver (found ∷ all) at =
      let later = kept_alike receiver all (λ other i. at other (inr i)) in
      let here = at found (inl refl) in grind (arith, common_steps, cases_Bool)

  pub receiver_alike : (receiver : ℕ)
      → earliest_to (first_ends s c) receiver ≡ first_receipt s c receiver
  receiver_alike receiver =
      ap earliest (kept_alike receiver (all_routes c) (each_at c.root [] c.root refl))
      ∙ sym (receipt_is_earliest s c receiver)

  pub receivers_shown : (from n : ℕ) → from + n ≤ length c.receivers
      → AllByRecursion (IsShownReceiver s.labels c)
      (map (receiver_found s c) (range_with_len from n))
  receivers_shown from zero within = tt
  receivers_shown from (suc n) within = (
    (
      omega (arith, within),
      IfSome_then (first_receipt s c from)
          (found_of_space s _ (first_receipt s c from) refl) (λ choice possible. possible.0),
    ),
    receivers_shown (from + 1) n (omega (arith, within)),
  )
