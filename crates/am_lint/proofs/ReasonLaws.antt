-- A reason keeps alerts out: none enters the route, or none ends at a route that hands on.
use Rattle.std.proofs.Common.{ℕ, List, not, ap}
use Rattle.std.specs.Prelude.{IsTrue}
use Rattle.std.proofs.lemmas.Bool.{both_ways, and_from}
use Rattle.am_universe.specs.LabelSet.{LabelMap}
use Rattle.am_universe.proofs.ListLemmas.{AllByRecursion-at, IsIn-from_Contains}
use Rattle.am_labels.specs.Matcher.{all_hold}
use Rattle.am_config.specs.ConfigFile.{Configuration, matchers_of, continues_of}
use Rattle.am_config.specs.Path.{leads_through}
use Rattle.am_lint.specs.Places.{stands_before, is_child_of}
use Rattle.am_eval.specs.Reaching.{Enters, IsDead, IsNeverEntered}
use Rattle.am_lint.specs.Reasons.{IsReasonWhy, IsExcludedBy, IsTakenBy, IsHandedTo, LacksContinue}
use Rattle.am_lint.specs.Reasons.{MatchesWay, Matches, Misses}
use Rattle.am_lint.proofs.EnteringLemmas.{entered, ends_exactly}
use Rattle.am_lint.proofs.NamedReasons.{missed}

module _ (Occurs : LabelMap → Type 0) (c : Configuration) (path : List ℕ)
    (routes : List (List ℕ)) where
  none : (IsOfKind : List ℕ → Type 0) (First : LabelMap → Type 0)
      (Does : List ℕ → LabelMap → Type 0) → IsReasonWhy Occurs IsOfKind First Does routes
      → (set : LabelMap) → Occurs set → First set → ((q : List ℕ) → IsOfKind q → Does q set) → ⊥
  none IsOfKind First Does by set is first each =
      by.enough set is (
        first,
        λ q there.
            each q
            (AllByRecursion-at IsOfKind routes q by.kind (IsIn-from_Contains routes q there)),
      )

  pub excluded_none : IsExcludedBy Occurs c path routes → IsNeverEntered Occurs c path
  excluded_none by set is enters =
      none (λ q. IsTrue (leads_through q path)) _ (Matches c) by set is tt
      (entered c path set enters).0

  pub taken_none : IsTakenBy Occurs c path routes → IsNeverEntered Occurs c path
  taken_none by set is enters =
      let met = entered c path set enters in
      none (λ q. IsTrue (stands_before path q) × LacksContinue c q) (MatchesWay c path) (Misses c)
      by.1 set is met.0 (λ q before.
      let t = before.1.0 in
      (missed c set q t before.1.1).0 (met.1 q t before.1.1
      (and_from (not (continues_of t)) (stands_before path q) (ap not before.1.2) before.0)))

  pub handed_none : IsHandedTo Occurs c path routes → IsDead Occurs c path
  handed_none by set is ends =
      let met = (ends_exactly c path set).1 ends in
      none (λ q. IsTrue (is_child_of path q)) (Enters c path) (Misses c) by.0 set is met.0
      (λ q child m. both_ways (all_hold set (matchers_of m.0)) (met.1 q m.0 m.1 child) m.2)
