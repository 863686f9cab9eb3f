-- What is true of the label sets of a complete space is true of all its alerts.
use Rattle.std.proofs.Common.{◌≡◌, ℕ, zero, suc, List, [], ◌∷◌, Contains, Some, sym}
use Rattle.std.proofs.Common.{subst, ◌∙◌}
use Rattle.std.specs.Prelude.{IsTrue, slice_get, ⊤}
use Rattle.std.proofs.lemmas.Option.{option_and_then_some, same_Some}
use Rattle.am_universe.specs.LabelSet.{LabelMap, label_set_of}
use Rattle.am_labels.specs.Matcher.{Matcher}
use Rattle.am_labels.specs.Space.{Space, is_possible}
use Rattle.am_config.specs.ConfigFile.{Configuration, RouteTree, Routes, route, no_routes}
use Rattle.am_config.specs.ConfigFile.{next_route}
use Rattle.am_config.specs.Path.{list_of, route_at}
use Rattle.am_classes.specs.declared.alphabet.Alphabet.{Alphabet}
use Rattle.am_asked.specs.Asked.{route_matchers, routes_matchers}
use Rattle.am_every_alert.specs.EveryAlert.{IsAlert, IsAlertOf, MeetsTheSame}
use Rattle.am_every_alert.specs.Deciding.{StandsFor}
use Rattle.am_every_alert.proofs.SpaceAlerts.{IsToldBy, meets_turned, alert_of_set, none_over}
use Rattle.am_every_alert.proofs.SpaceAlerts.{some_over, ends_told, enters_told}
use Rattle.am_every_alert.proofs.TreatedAlike.{front_met, rest_met, own_alike}
use Rattle.am_lint.specs.declared.arrival.Cause.{Cause}
use Rattle.am_lint.specs.declared.arrival.Cause.TheVariants as cause_is
use Rattle.am_lint.specs.declared.arrival.Arrival.{Arrival}
use Rattle.am_lint.specs.declared.arrival.Arrival.TheVariants as arrival_is
use Rattle.am_eval.specs.Reaching.{EndsAt, Enters, NoneIs, IsSetOf}
use Rattle.am_lint.specs.Reasons.{IsReasonWhy, Matches, Misses, MatchesWay, IsHandedTo}
use Rattle.am_lint.specs.Reasons.{EachTakesSome}
use Rattle.am_lint.specs.Arrival.{IsSeenBy, IsReasonFor, IsArrival}

-- ---- What meets the same of the matchers of all routes.

met_among : (s t : LabelMap) (rs : Routes) (p : ℕ) (r : RouteTree)
    → MeetsTheSame (routes_matchers rs) s t → slice_get (list_of rs) p ≡ Some r
    → MeetsTheSame (route_matchers r) s t
met_among s t no_routes p r h is = absurd (cc)
met_among s t (next_route first rs) zero r h is =
    subst (λ (x : RouteTree). MeetsTheSame (route_matchers x) s t) (same_Some first r is)
    (front_met s t (route_matchers first) (routes_matchers rs) h)
met_among s t (next_route first rs) (suc p) r h is =
    met_among s t rs p r (rest_met s t (route_matchers first) (routes_matchers rs) h) is

pub met_at : (s t : LabelMap) (root : RouteTree) (q : List ℕ) (r : RouteTree)
    → MeetsTheSame (route_matchers root) s t → route_at root q ≡ Some r
    → MeetsTheSame (route_matchers r) s t
met_at s t root [] r h at =
    subst (λ (x : RouteTree). MeetsTheSame (route_matchers x) s t) (same_Some root r at) h
met_at s t (route settings children) (p ∷ q) r h at =
    option_and_then_some (λ child. route_at child q) (slice_get (list_of children) p) r at
    (λ child is further.
    met_at s t child q r
    (met_among s t children p child
    (rest_met s t settings.matchers (routes_matchers children) h) is) further)

module _ (c : Configuration) where
  abbrev pub routes : List Matcher
  routes = route_matchers c.root

  matches_told : (q : List ℕ) → IsToldBy routes (Matches c q)
  matches_told q s t met h =
      (h.0, h.1, sym (own_alike s t h.0 (met_at s t c.root q h.0 met h.1)) ∙ h.2)

  misses_told : (q : List ℕ) → IsToldBy routes (Misses c q)
  misses_told q s t met none h = none (matches_told q t s (meets_turned routes s t met) h)

  way_told : (path : List ℕ) → IsToldBy routes (MatchesWay c path)
  way_told path s t met h q leads = matches_told q s t met (h q leads)

-- ---- A space that stands for its alerts.

abbrev IsAlertBut : Alphabet → List (List Matcher) → LabelMap → Type 0
IsAlertBut a lists set = IsAlert a set × IsTrue (is_possible lists set)

abbrev pub StandsForAlerts : Alphabet → Space → Configuration → Type 0
StandsForAlerts a s c = StandsFor a s (routes c)

module _ (a : Alphabet) (s : Space) (c : Configuration) (h : StandsForAlerts a s c) where
  none_so : (Is : LabelMap → Type 0) → IsToldBy (routes c) Is → NoneIs (IsSetOf s) Is
      → NoneIs (IsAlertOf a s) Is
  none_so = none_over a s c h.universe h.complete

  -- ---- Reasons.

  why_over : (IsOfKind : List ℕ → Type 0) (First : LabelMap → Type 0)
      (Does : List ℕ → LabelMap → Type 0) (blamed : List (List ℕ)) → IsToldBy (routes c) First
      → ((q : List ℕ) → IsToldBy (routes c) (Does q))
      → IsReasonWhy (IsSetOf s) IsOfKind First Does blamed
      → IsReasonWhy (IsAlertOf a s) IsOfKind First Does blamed
  why_over IsOfKind First Does blamed first does by = record {
    kind = by.kind;
    ordered = by.ordered;
    enough = none_so (λ set. First set × ((q : List ℕ) → Contains blamed q → Does q set))
        (λ x y met so. (first x y met so.0, λ q there. does q x y met (so.1 q there))) by.enough;
    needed = λ q there. some_over a s (routes c) h _ (by.needed q there);
  }

  taken_over : (First : LabelMap → Type 0) (blamed : List (List ℕ))
      → EachTakesSome (IsSetOf s) c First blamed → EachTakesSome (IsAlertOf a s) c First blamed
  taken_over First [] each = tt
  taken_over First (q ∷ blamed) each =
      (some_over a s (routes c) h _ each.0, taken_over First blamed each.1)

  pub handed_over : (path : List ℕ) (children : List (List ℕ))
      → IsHandedTo (IsSetOf s) c path children → IsHandedTo (IsAlertOf a s) c path children
  handed_over path children by = (
    why_over _ (Enters c path) (Misses c) children (enters_told c path) (misses_told c) by.0,
    taken_over (Enters c path) children by.1,
  )

  pub reason_over : (path : List ℕ) (cause : Cause) (blamed : List (List ℕ))
      → IsReasonFor (IsSetOf s) c path cause blamed
      → IsReasonFor (IsAlertOf a s) c path cause blamed
  reason_over path cause_is.Excluded blamed by =
      why_over _ (λ set. ⊤) (Matches c) blamed (λ x y met so. so) (matches_told c) by
  reason_over path cause_is.Taken blamed by = (
    by.0,
    why_over _ (MatchesWay c path) (Misses c) blamed (way_told c path) (misses_told c) by.1,
    taken_over (MatchesWay c path) blamed by.2,
  )

  -- ---- How a route stands.

  seen_over : (Is : LabelMap → Type 0) (choice : List ℕ)
      → IsSeenBy s.labels (IsSetOf s) Is choice → IsSeenBy s.labels (IsAlertOf a s) Is choice
  seen_over Is choice seen =
      (seen.0, alert_of_set a s (routes c) h (label_set_of s.labels choice) seen.1, seen.2)

  pub arrival_over : (path : List ℕ) (arrival : Arrival)
      → IsArrival s.labels (IsSetOf s) c path arrival
      → IsArrival s.labels (IsAlertOf a s) c path arrival
  arrival_over path (arrival_is.Ends choice) so = seen_over (EndsAt c path) choice so
  arrival_over path (arrival_is.HandsOn entry children) so = (
    seen_over (Enters c path) entry so.0,
    none_so (EndsAt c path) (ends_told c path) so.1,
    handed_over path children.items so.2,
  )
  arrival_over path (arrival_is.NeverEntered reason) so = (
    none_so (Enters c path) (enters_told c path) so.0,
    reason_over path reason.cause reason.routes.items so.1,
  )
  arrival_over path (arrival_is.Undecided evidence) so = so

  -- the same for the alerts of a space with other labels
  pub arrival_over_as : (t : Space) → t.impossible ≡ s.impossible → (path : List ℕ)
      → (arrival : Arrival) → IsArrival s.labels (IsSetOf s) c path arrival
      → IsArrival s.labels (IsAlertOf a t) c path arrival
  arrival_over_as t same path arrival so =
      subst (λ lists. IsArrival s.labels (IsAlertBut a lists) c path arrival) (sym same)
      (arrival_over path arrival so)
