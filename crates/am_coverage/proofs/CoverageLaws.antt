-- The coverage of a route, and the first choice that goes to a receiver, say what holds over all
-- label sets.
use Rattle.std.proofs.Common.{◌≡◌, ◌↔◌, ℕ, List, Option, Some, None, refl, ap, subst}
use Rattle.std.specs.Prelude.{IsTrue, is_some, ◌==◌}
use Rattle.std.specs.List.{list_any}
use Rattle.am_universe.specs.LabelSet.{LabelMap}
use Rattle.am_universe.specs.Text.{same_text}
use Rattle.am_labels.specs.Space.{Space}
use Rattle.am_config.specs.ConfigFile.{Configuration}
use Rattle.am_config.specs.Path.{leads_through}
use Rattle.am_eval.specs.Routing.{ends, receivers}
use Rattle.am_eval.specs.Reaching.{EndsAt, Enters, GoesTo, SomeIs, IsSetOf, IsDead, IsNeverEntered}
use Rattle.am_eval.proofs.ListTests.{some_passes, passes_among}
use Rattle.am_eval.proofs.SimpleParts.{end_from_test, test_from_end, receipt_from_test}
use Rattle.am_eval.proofs.SimpleParts.{test_from_receipt}
use Rattle.am_search.proofs.PrefixOrder.{begins_itself}
use Rattle.am_coverage.specs.declared.coverage.RouteCoverage.{RouteCoverage}
use Rattle.am_coverage.specs.declared.coverage.RouteCoverage.TheVariants as route_is
use Rattle.am_coverage.specs.Coverage.{first_end, first_entry, first_receipt, live_or, dead_route}
use Rattle.am_coverage.specs.Coverage.{route_coverage}
use Rattle.am_coverage.specs.Report.{IsFirst, IsCoverage}
use Rattle.am_coverage.proofs.FirstFound.{some_first, first_exactly, some_found}

-- ---- The tests of the first choices, and what they say.

says_end : (c : Configuration) (path : List ℕ) (set : LabelMap)
    → IsTrue (list_any (λ end. same_text end path) (ends set c)) ↔ EndsAt c path set
says_end c path set = (end_from_test path (ends set c), test_from_end path (ends set c))

says_entry : (c : Configuration) (path : List ℕ) (set : LabelMap)
    → IsTrue (list_any (leads_through path) (ends set c)) ↔ Enters c path set
says_entry c path set = (
  some_passes (leads_through path) (ends set c),
  λ h. passes_among (leads_through path) (ends set c) h.0 h.1 h.2,
)

says_receipt : (c : Configuration) (receiver : ℕ) (set : LabelMap)
    → IsTrue (list_any (λ other. other == receiver) (receivers set c)) ↔ GoesTo c receiver set
says_receipt c receiver set =
    (receipt_from_test receiver (receivers set c), test_from_receipt receiver (receivers set c))

module _ (s : Space) (c : Configuration) where
  -- ---- Receivers.

  pub receipt_exactly : (receiver : ℕ) (o : Option (List ℕ))
      → IsFirst s (GoesTo c receiver) o ↔ (first_receipt s c receiver ≡ o)
  receipt_exactly receiver = first_exactly s _ (GoesTo c receiver) (says_receipt c receiver)

  pub receipt_told : (receiver : ℕ) → SomeIs (IsSetOf s) (GoesTo c receiver)
      → (first : List ℕ) × (first_receipt s c receiver ≡ Some first)
  receipt_told receiver = some_found s _ (GoesTo c receiver) (says_receipt c receiver)

  -- ---- Routes.

  pub end_exactly : (path : List ℕ) (o : Option (List ℕ))
      → IsFirst s (EndsAt c path) o ↔ (first_end s c path ≡ o)
  end_exactly path = first_exactly s _ (EndsAt c path) (says_end c path)

  pub entry_exactly : (path : List ℕ) (o : Option (List ℕ))
      → IsFirst s (Enters c path) o ↔ (first_entry s c path ≡ o)
  entry_exactly path = first_exactly s _ (Enters c path) (says_entry c path)

  pub live_told : (path : List ℕ) → SomeIs (IsSetOf s) (EndsAt c path)
      → (first : List ℕ) × (route_coverage s c path ≡ route_is.Live first)
  live_told path some =
      let r = some_found s _ (EndsAt c path) (says_end c path) some in
      (r.0, ap (live_or (dead_route (is_some (first_entry s c path)))) r.1)

  -- if no label set ends at the route or below it, none ends at it
  pub dead_from_never : (path : List ℕ) → IsNeverEntered (IsSetOf s) c path
      → IsDead (IsSetOf s) c path
  dead_from_never path never set is h = never set is (path, h, begins_itself path)

  so : (path : List ℕ) (entry end : Option (List ℕ)) → IsFirst s (Enters c path) entry
      → IsFirst s (EndsAt c path) end
      → IsCoverage s c path (live_or (dead_route (is_some entry)) end)
  so path entry (Some choice) first live = live
  so path None None never dead = never
  so path (Some choice) None first dead = (dead, some_first s (Enters c path) choice first)

  -- what is told of a route is so, and is all that is so
  pub covered : (path : List ℕ) → IsCoverage s c path (route_coverage s c path)
  covered path =
      so path (first_entry s c path) (first_end s c path) ((entry_exactly path _).1 refl)
      ((end_exactly path _).1 refl)

  pub coverage_is : (path : List ℕ) (coverage : RouteCoverage) → IsCoverage s c path coverage
      → route_coverage s c path ≡ coverage
  coverage_is path (route_is.Live choice) first =
      ap (live_or (dead_route (is_some (first_entry s c path))))
      ((end_exactly path (Some choice)).0 first)
  coverage_is path route_is.Entered h =
      let entry = some_found s _ (Enters c path) (says_entry c path) h.1 in
      let end = (end_exactly path None).0 h.0 in
      λ i. live_or (dead_route (is_some (entry.1 i))) (end i)
  coverage_is path route_is.NeverEntered never =
      let entry = (entry_exactly path None).0 never in
      let end = (end_exactly path None).0 (dead_from_never path never) in
      λ i. live_or (dead_route (is_some (entry i))) (end i)

  pub coverage_exactly : (path : List ℕ) (coverage : RouteCoverage)
      → IsCoverage s c path coverage ↔ (route_coverage s c path ≡ coverage)
  coverage_exactly path coverage =
      (coverage_is path coverage, λ e. subst (IsCoverage s c path) e (covered path))
