-- A report says the coverage of its routes and receivers: the lines that are written say it, and no
-- other lines do.
use Rattle.std.proofs.Common.{◌≡◌, ◌↔◌, ℕ, List, [], ◌∷◌, ◌++◌, length, map, get_or}
use Rattle.std.proofs.Common.{codes, Option, Some, None, refl, sym, ap, ◌∙◌, arith}
use Rattle.std.specs.Prelude.{slice_get, unwrap_or}
use Rattle.std.specs.List.{AllZip, flat_map, range_with_len}
use Rattle.std.proofs.lemmas.List.Folds.{flat_map-map}
use mathlib.Core.List.{append_cancel_left}
use Rattle.am_universe.specs.Text.{quoted_text}
use Rattle.am_labels.specs.Space.{Space}
use Rattle.am_config.specs.ConfigFile.{Configuration}
use Rattle.am_config.specs.Path.{path_text}
use Rattle.am_config.specs.RoutePaths.{paths_of}
use Rattle.am_eval.specs.Reaching.{EndsAt, GoesTo, IsSetOf, IsDead, IsNeverEntered}
use Rattle.am_eval.specs.Reaching.{IsUnmatched}
use Rattle.am_coverage.specs.declared.coverage.RouteCoverage.{RouteCoverage}
use Rattle.am_coverage.specs.declared.coverage.RouteCoverage.TheVariants as route_is
use Rattle.am_coverage.specs.declared.receiver_coverage.ReceiverFound.{ReceiverFound}
use Rattle.am_coverage.specs.declared.route_coverage.RouteFound.{RouteFound}
use Rattle.am_coverage.specs.Coverage.{route_coverage, first_receipt}
use Rattle.am_coverage.specs.CoverageView.{route_found, receiver_found}
use Rattle.am_coverage.specs.WrittenCoverage.{route_line, routes_text, receiver_line}
use Rattle.am_coverage.specs.WrittenCoverage.{receivers_text, receiver_status}
use Rattle.am_coverage.specs.Report.{IsFirst, IsCoverage, IsRouteLine, IsReceiverLine, IsReport}
use Rattle.am_coverage.specs.Report.{IsRoutesReport, IsReceiversReport}
use Rattle.am_coverage.proofs.FirstFound.{some_first}
use Rattle.am_coverage.proofs.CoverageLaws.{coverage_exactly, dead_from_never}
use Rattle.am_coverage.proofs.CoverageLaws.{receipt_exactly}

-- if a text continues a front in two ways, the bytes at each position are the same
differ : (a b front line : List ℕ) (i : ℕ) → line ≡ front ++ a → line ≡ front ++ b
    → get_or a i 0 ≡ get_or b i 0
differ a b front line i is also =
    ap (λ rest. get_or rest i 0) (append_cancel_left front a b (sym is ∙ also))

-- Reports, if a line says a finding that is true of its thing, and one finding is true of each.
module _ {K V : Type 0} (IsSo : K → V → Type 0) (told : K → V) (line_of : K → V → List ℕ)
    (exactly : (k : K) (v : V) → IsSo k v ↔ (told k ≡ v)) where
  abbrev IsLine : K → List ℕ → Type 0
  IsLine k line = (v : V) × IsSo k v × (line ≡ line_of k v)

  abbrev line_at : K → List ℕ
  line_at k = line_of k (told k)

  each_said : (ks : List K) → AllZip IsLine ks (map line_at ks)
  each_said [] = tt
  each_said (k ∷ ks) = ((told k, (exactly k (told k)).1 refl, refl), each_said ks)

  reported : (ks : List K) → IsReport IsLine ks (flat_map line_at ks ++ codes "# end\n")
  reported ks = record {
    lines = map line_at ks;
    each = each_said ks;
    joined = ap (λ text. text ++ codes "# end\n") (sym (flat_map-map (λ line. line) line_at ks));
  }

  lines_are : (ks : List K) (lines : List (List ℕ)) → AllZip IsLine ks lines
      → lines ≡ map line_at ks
  lines_are [] [] each = refl
  lines_are (k ∷ ks) (line ∷ lines) each =
      let said = each.0 in
      let is : line ≡ line_at k = said.2 ∙ ap (line_of k) (sym ((exactly k said.0).0 said.1)) in
      λ i. is i ∷ lines_are ks lines each.1 i
  lines_are ks lines each = absurd each

  one_report : (ks : List K) (report other : List ℕ) → IsReport IsLine ks report
      → IsReport IsLine ks other → report ≡ other
  one_report ks report other r also =
      let same = lines_are ks r.lines r.each ∙ sym (lines_are ks also.lines also.each) in
      r.joined ∙ ap (λ lines. flat_map (λ line. line) lines ++ codes "# end\n") same
      ∙ sym also.joined

module _ (s : Space) (c : Configuration) where
  -- ---- Routes.

  abbrev line_of_route : List ℕ → RouteCoverage → List ℕ
  line_of_route path coverage =
      route_line s.labels (record { path = path; coverage = coverage })

  pub routes_reported : (found : List RouteFound) → found ≡ map (route_found s c) (paths_of c)
      → IsRoutesReport s c (routes_text s.labels found)
  routes_reported found is =
      rw (is, flat_map-map (route_line s.labels) (route_found s c) (paths_of c))
      (reported (IsCoverage s c) (route_coverage s c) line_of_route (coverage_exactly s c)
      (paths_of c))

  pub one_routes_report : (report other : List ℕ) → IsRoutesReport s c report
      → IsRoutesReport s c other → report ≡ other
  one_routes_report =
      one_report (IsCoverage s c) (route_coverage s c) line_of_route (coverage_exactly s c)
      (paths_of c)

  -- ---- What the line of a route says.

  pub line_says_dead : (path line : List ℕ) → IsRouteLine s c path line
      → IsDead (IsSetOf s) c path
      ↔ ((rest : List ℕ) × (line ≡ path_text path ++ (codes " dead " ++ rest)))
  line_says_dead path line (route_is.Live choice, first, e) = (
    λ dead.
        let some = some_first s (EndsAt c path) choice first in
        absurd (dead some.0 some.1 some.2),
    λ said.
        let bytes : (◌≡◌ {A = ℕ} 108 100) = differ _ _ (path_text path) line 1 e said.1 in
        absurd (omega (arith, bytes)),
  )
  line_says_dead path line (route_is.Entered, so, e) =
      (λ _. (codes "entered\n", e), λ _. so.0)
  line_says_dead path line (route_is.NeverEntered, never, e) =
      (λ _. (codes "never-entered\n", e), λ _. dead_from_never s c path never)

  pub line_says_never : (path line : List ℕ) → IsRouteLine s c path line
      → IsNeverEntered (IsSetOf s) c path
      ↔ (line ≡ path_text path ++ codes " dead never-entered\n")
  line_says_never path line (route_is.Live choice, first, e) = (
    λ never.
        let some = some_first s (EndsAt c path) choice first in
        absurd (dead_from_never s c path never some.0 some.1 some.2),
    λ said.
        let bytes : (◌≡◌ {A = ℕ} 108 100) = differ _ _ (path_text path) line 1 e said in
        absurd (omega (arith, bytes)),
  )
  line_says_never path line (route_is.Entered, so, e) = (
    λ never. absurd (never so.1.0 so.1.1 so.1.2),
    λ said.
        let bytes : (◌≡◌ {A = ℕ} 101 110) = differ _ _ (path_text path) line 6 e said in
        absurd (omega (arith, bytes)),
  )
  line_says_never path line (route_is.NeverEntered, never, e) = (λ _. e, λ _. never)

  -- ---- Receivers.

  abbrev line_of_receiver : ℕ → Option (List ℕ) → List ℕ
  line_of_receiver receiver choice =
      receiver_line s.labels c.receivers (record { receiver = receiver; choice = choice })

  abbrev IsReceipt : ℕ → Option (List ℕ) → Type 0
  IsReceipt receiver = IsFirst s (GoesTo c receiver)

  pub receivers_reported : (found : List ReceiverFound)
      → found ≡ map (receiver_found s c) (range_with_len 0 (length c.receivers))
      → IsReceiversReport s c (receivers_text s.labels c.receivers found)
  receivers_reported found is =
      let all = range_with_len 0 (length c.receivers) in
      rw (is, flat_map-map (receiver_line s.labels c.receivers) (receiver_found s c) all)
      (reported IsReceipt (first_receipt s c) line_of_receiver (receipt_exactly s c) all)

  pub one_receivers_report : (report other : List ℕ) → IsReceiversReport s c report
      → IsReceiversReport s c other → report ≡ other
  one_receivers_report =
      one_report IsReceipt (first_receipt s c) line_of_receiver (receipt_exactly s c)
      (range_with_len 0 (length c.receivers))

  -- ---- What the line of a receiver says.

  pub line_says_unmatched : (receiver : ℕ) (name line : List ℕ)
      → slice_get c.receivers receiver ≡ Some name → IsReceiverLine s c receiver line
      → IsUnmatched (IsSetOf s) c receiver ↔ (line ≡ quoted_text name ++ codes " unmatched\n")
  line_says_unmatched receiver name line named (choice, so, e) =
      by choice so (e ∙ ap (λ o. quoted_text (unwrap_or o [])
      ++ (receiver_status s.labels choice ++ codes "\n")) named)
    where
      by : (choice : Option (List ℕ)) → IsFirst s (GoesTo c receiver) choice
          → line ≡ quoted_text name ++ (receiver_status s.labels choice ++ codes "\n")
          → IsUnmatched (IsSetOf s) c receiver ↔ (line ≡ quoted_text name ++ codes " unmatched\n")
      by None unmatched e = (λ _. e, λ _. unmatched)
      by (Some choice) first e = (
        λ unmatched.
            let some = some_first s (GoesTo c receiver) choice first in
            absurd (unmatched some.0 some.1 some.2),
        λ said.
            let bytes : (◌≡◌ {A = ℕ} 108 117) = differ _ _ (quoted_text name) line 1 e said in
            absurd (omega (arith, bytes)),
      )
