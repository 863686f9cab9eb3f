-- From what is found of routes to what is said of them and of receivers.
use Rattle.std.proofs.Common.{◌≡◌, ℕ, List, [], ◌∷◌, map, length, Bool, true, false, cond, Option}
use Rattle.std.proofs.Common.{Some, None, refl, sym, ap, subst, ◌∙◌}
use Rattle.std.specs.Prelude.{IsTrue, ◌==◌, ◌&&◌}
use Rattle.std.specs.List.{AllZip, list_any, range_with_len}
use Rattle.std.proofs.lemmas.Bool.{both_ways, and_parts, and_from, eqb-true, eq-eqb}
use Rattle.std.proofs.lemmas.Bool.{false_from_ne_true, false≢true}
use Rattle.am_universe.specs.Universe.{Label}
use Rattle.am_universe.specs.LabelSet.{LabelMap, label_set_of}
use Rattle.am_universe.proofs.ListLemmas.{IsIn}
use Rattle.am_universe.proofs.UniverseLemmas.{list_any-map}
use Rattle.am_labels.specs.Space.{Space}
use Rattle.am_labels.proofs.Passing.{any_in, in_any}
use Rattle.am_config.specs.ConfigFile.{Configuration, RouteTree, receiver_of}
use Rattle.am_config.specs.RoutePaths.{all_routes}
use Rattle.am_eval.proofs.SimpleParts.{end_of_receiver, receiver_of_end}
use Rattle.am_classes.specs.declared.alphabet.Alphabet.{Alphabet}
use Rattle.am_classes.specs.declared.alphabet.Alphabet.TheVariants.{Unicode, Ascii}
use Rattle.am_every_alert.specs.EveryAlert.{IsAlertOf}
use Rattle.am_lint.specs.declared.arrival.Arrival.{Arrival}
use Rattle.am_lint.specs.declared.arrival.Arrival.TheVariants as arrival_is
use Rattle.am_lint.specs.declared.found.FoundRoute.{FoundRoute}
use Rattle.am_lint.specs.declared.found.ReceiverFinding.{ReceiverFinding}
use Rattle.am_lint.specs.declared.found.ReceiverFinding.TheVariants as receiver_is
use Rattle.am_eval.specs.Reaching.{EndsAt, GoesTo, SomeIs, IsDead, IsUnmatched}
use Rattle.am_lint.specs.Arrival.{IsArrival}
use Rattle.am_lint.specs.Findings.{HandsOn, IsOrdinary, IsRouteFinding}
use Rattle.am_lint.specs.FoundView.{finding_by, finding_of, handing, said_of, IsKnown}
use Rattle.am_lint.specs.FoundView.{is_end, is_end_if_any, lacks_end}
use Rattle.am_lint.specs.FoundView.{has_ordinary, has_other, receiver_finding}
use Rattle.am_report_texts.specs.Line.{Line}
use Rattle.am_lint.specs.LintLines.{report_lines}
use Rattle.am_lint.specs.Report.{is_undecided, has_undecided, IsReceiverFinding, IsSaid}
use Rattle.am_lint.specs.Report.{SaysOfRoutes}
use Rattle.am_lint.proofs.TableLemmas.{zip_left, zip_right, stands_at, listed}
use Rattle.am_lint.proofs.EnteringLemmas.{enters_to_end}

-- ---- What was found.

-- how a route stands over every alert; this need not be known if some ordinary alert may end there,
-- and it is not known if only printable ASCII counts
abbrev pub IsFurther :
    Alphabet → Space → List Label → Configuration → List ℕ → Arrival → Option Arrival → Type 0
IsFurther Ascii s v c path ordinary every = every ≡ None
IsFurther Unicode s v c path ordinary every =
    lacks_end ordinary ≡ true → IsKnown v (IsAlertOf Unicode s) c path every

-- what was found of a route is true for the alerts of a space, with choices of some labels and,
-- over every alert, of others
pub record IsFoundSo (alphabet : Alphabet) (s : Space) (u v : List Label) (c : Configuration)
    (route : List ℕ × RouteTree) (found : FoundRoute) : Type 0 where
  pub path : found.path ≡ route.0
  pub receiver : found.receiver ≡ receiver_of route.1
  pub ordinary : IsArrival u (IsOrdinary s) c route.0 found.ordinary
  pub further : IsFurther alphabet s v c route.0 found.ordinary found.every

-- ---- Lists, position by position.

zip_mapped : {X Y Z : Type 0} (R : X → Y → Type 0) (Q : X → Z → Type 0) (f : Y → Z)
    → ((x : X) (y : Y) → R x y → Q x (f y)) → (xs : List X) (ys : List Y)
    → AllZip R xs ys → AllZip Q xs (map f ys)
zip_mapped R Q f each [] [] h = tt
zip_mapped R Q f each (x ∷ xs) (y ∷ ys) h =
    (each x y h.0, zip_mapped R Q f each xs ys h.1)
zip_mapped R Q f each xs ys h = absurd h

zip_own : {X Y : Type 0} (Q : X → Y → Type 0) (f : X → Y) → ((x : X) → Q x (f x))
    → (xs : List X) → AllZip Q xs (map f xs)
zip_own Q f each [] = tt
zip_own Q f each (x ∷ xs) = (each x, zip_own Q f each xs)

-- ---- Routes and their ends.

module _ (u : List Label) (Occurs : LabelMap → Type 0) (c : Configuration) (path : List ℕ) where
  some_end : (every : Option Arrival) → is_end_if_any every ≡ true
      → IsKnown u Occurs c path every → SomeIs Occurs (EndsAt c path)
  some_end (Some (arrival_is.Ends choice)) e so = (label_set_of u choice, so.1, so.2)
  some_end every e so = absurd (cc)

  no_end : (arrival : Arrival) → lacks_end arrival ≡ true → IsArrival u Occurs c path arrival
      → IsDead Occurs c path
  no_end (arrival_is.HandsOn entry children) e so = so.1
  no_end (arrival_is.NeverEntered reason) e so =
      λ set is ends. so.0 set is (enters_to_end c path set ends)
  no_end arrival e so = absurd (cc)

-- if nothing is undecided, an arrival without an end says that there is none
lacking : (ordinary : Arrival) (every : Option Arrival) → is_end ordinary ≡ false
    → is_undecided (finding_by ordinary every) ≡ false → lacks_end ordinary ≡ true
lacking (arrival_is.Ends choice) every e f = cc
lacking ordinary every e f = cc

further_lacks : (ordinary every : Arrival) → lacks_end ordinary ≡ true
    → is_undecided (finding_by ordinary (Some every)) ≡ false → is_end every ≡ false
    → lacks_end every ≡ true
further_lacks (arrival_is.HandsOn entry children) (arrival_is.Undecided evidence) e f g = cc
further_lacks (arrival_is.NeverEntered reason) (arrival_is.Undecided evidence) e f g = cc
further_lacks ordinary every e f g = cc

-- ---- What is said of a route.

module _ (s : Space) (u v : List Label) (c : Configuration) (path : List ℕ) where
  handing_so : (alphabet : Alphabet) (children : List (List ℕ)) (every : Option Arrival)
      → IsRouteFinding alphabet s v c path (Some (HandsOn children))
      → IsRouteFinding alphabet s v c path (Some (handing children every))
  handing_so alphabet children (Some (arrival_is.Undecided evidence)) so = evidence.all
  handing_so alphabet children every so = so

  finding_so : (alphabet : Alphabet) (ordinary : Arrival) (every : Option Arrival)
      → IsArrival u (IsOrdinary s) c path ordinary
      → IsFurther alphabet s v c path ordinary every
      → IsRouteFinding alphabet s v c path (finding_by ordinary every)
  finding_so alphabet (arrival_is.Ends choice) every so further =
      (label_set_of u choice, so.1, so.2)
  finding_so alphabet (arrival_is.HandsOn entry children) every so further =
      handing_so alphabet children.items every
      ((label_set_of u entry, so.0.1, so.0.2), so.1, so.2)
  finding_so alphabet (arrival_is.Undecided evidence) every so further = so
  finding_so Ascii (arrival_is.NeverEntered reason) None so further = so
  finding_so Ascii (arrival_is.NeverEntered reason) (Some arrival) so further = absurd (cc)
  finding_so Unicode (arrival_is.NeverEntered reason) None so further = absurd (further refl)
  finding_so Unicode (arrival_is.NeverEntered reason) (Some (arrival_is.Ends choice)) so further =
      let h = further refl in
      (refl, so.0, so.1, (h.0, h.1, enters_to_end c path (label_set_of v choice) h.2))
  finding_so Unicode (arrival_is.NeverEntered reason) (Some (arrival_is.HandsOn entry children)) so
      further =
      (refl, so.0, so.1, (further refl).0)
  finding_so Unicode (arrival_is.NeverEntered reason) (Some (arrival_is.NeverEntered other)) so
      further = further refl
  finding_so Unicode (arrival_is.NeverEntered reason) (Some (arrival_is.Undecided evidence)) so
      further = further refl

-- ---- What is said of a receiver.

module _ (alphabet : Alphabet) (s : Space) (u v : List Label) (c : Configuration)
    (routes : List FoundRoute)
    (so : AllZip (IsFoundSo alphabet s u v c) (all_routes c) routes) where
  abbrev IsSo : List ℕ × RouteTree → FoundRoute → Type 0
  IsSo route found = IsFoundSo alphabet s u v c route found

  -- over every alert that counts
  none_counted : (b : Alphabet) (path : List ℕ) (ordinary : Arrival) (every : Option Arrival)
      → IsArrival u (IsOrdinary s) c path ordinary → IsFurther b s v c path ordinary every
      → lacks_end ordinary ≡ true → is_undecided (finding_by ordinary every) ≡ false
      → is_end_if_any every ≡ false → IsDead (IsAlertOf b s) c path
  none_counted Ascii path ordinary every is further none known other =
      no_end u (IsOrdinary s) c path ordinary none is
  none_counted Unicode path ordinary None is further none known other = absurd (further none)
  none_counted Unicode path ordinary (Some arrival) is further none known other =
      no_end v (IsAlertOf Unicode s) c path arrival (further_lacks ordinary arrival none known other)
      (further none)

  some_counted : (b : Alphabet) (path : List ℕ) (ordinary : Arrival) (every : Option Arrival)
      → IsFurther b s v c path ordinary every → lacks_end ordinary ≡ true
      → is_end_if_any every ≡ true → (b ≡ Unicode) × SomeIs (IsAlertOf b s) (EndsAt c path)
  some_counted Ascii path ordinary every further none other =
      absurd (false≢true (sym (ap is_end_if_any further) ∙ other))
  some_counted Unicode path ordinary every further none other =
      (refl, some_end v (IsAlertOf Unicode s) c path every other (further none))

  module _ (receiver : ℕ) where
    -- if a test finds no route with the receiver, each route with the receiver fails the test
    untold : (test : FoundRoute → Bool) (found : FoundRoute)
        → list_any (λ f. f.receiver == receiver && test f) routes ≡ false → IsIn routes found
        → IsTrue (found.receiver == receiver) → test found ≡ false
    untold test found none i has =
        false_from_ne_true (test found) (λ passes.
        both_ways (list_any (λ f. f.receiver == receiver && test f) routes) none
        (in_any (λ f. f.receiver == receiver && test f) routes found i
        (and_from (found.receiver == receiver) (test found) has passes)))

    -- an alert that goes to the receiver ends at a route that is found with it
    none_goes : (Occurs : LabelMap → Type 0)
        → ((route : List ℕ × RouteTree) (found : FoundRoute) → IsIn routes found
        → IsTrue (found.receiver == receiver) → IsSo route found
        → IsDead Occurs c route.0)
        → IsUnmatched Occurs c receiver
    none_goes Occurs each set is goes =
        let end = end_of_receiver set c receiver goes in
        let there = listed c end.0 end.1 end.3 in
        let f = zip_left IsSo (all_routes c) routes (end.0, end.1) so there in
        each (end.0, end.1) f.0 f.1
        (eq-eqb f.0.receiver receiver (f.2.receiver ∙ end.4)) f.2 set is end.2

    some_goes : (Occurs : LabelMap → Type 0) (found : FoundRoute) → IsIn routes found
        → IsTrue (found.receiver == receiver)
        → ((route : List ℕ × RouteTree) → IsSo route found → SomeIs Occurs (EndsAt c route.0))
        → SomeIs Occurs (GoesTo c receiver)
    some_goes Occurs found i has some =
        let r = zip_right IsSo (all_routes c) routes found so i in
        let end = some r.0 r.2 in (
          end.0,
          end.1,
          subst (λ n. GoesTo c n end.0)
              (sym r.2.receiver ∙ eqb-true found.receiver receiver has)
              (receiver_of_end end.0 c r.0.0 r.0.1 end.2 (stands_at c r.0 r.1)),
        )

    module _ (none : list_any (has_ordinary receiver) routes ≡ false)
        (known : list_any (has_undecided receiver) (map said_of routes) ≡ false) where
      decided : (found : FoundRoute) → IsIn routes found → IsTrue (found.receiver == receiver)
          → is_undecided (finding_of found) ≡ false
      decided found =
          untold (λ g. is_undecided (finding_of g)) found
          (sym (list_any-map (has_undecided receiver) said_of routes) ∙ known)

      lacks : (found : FoundRoute) → IsIn routes found → IsTrue (found.receiver == receiver)
          → lacks_end found.ordinary ≡ true
      lacks found i has =
          lacking found.ordinary found.every (untold (λ g. is_end g.ordinary) found none i has)
          (decided found i has)

    receiver_by : (a d b : Bool) → list_any (has_ordinary receiver) routes ≡ a
        → list_any (has_undecided receiver) (map said_of routes) ≡ d
        → list_any (has_other receiver) routes ≡ b
        → IsReceiverFinding alphabet s c (map said_of routes) receiver
        (cond a None (cond d (Some receiver_is.Undecided)
        (cond b (Some receiver_is.Unusual) (Some receiver_is.Unmatched))))
    receiver_by true d b e known f =
        let one = any_in (has_ordinary receiver) routes e in
        let parts = and_parts (one.0.receiver == receiver) (is_end one.0.ordinary) one.2 in
        some_goes (IsOrdinary s) one.0 one.1 parts.0 (λ route is.
        some_end u (IsOrdinary s) c route.0 (Some one.0.ordinary) parts.1 is.ordinary)
    receiver_by false true b e known f = known
    receiver_by false false true e known f =
        let one = any_in (has_other receiver) routes f in
        let parts = and_parts (one.0.receiver == receiver) (is_end_if_any one.0.every) one.2 in
        let none = lacks e known one.0 one.1 parts.0 in
        let counted = λ (route : List ℕ × RouteTree) (is : IsSo route one.0).
        some_counted alphabet route.0 one.0.ordinary one.0.every is.further none parts.1 in
        let at = zip_right IsSo (all_routes c) routes one.0 so one.1 in (
          (counted at.0 at.2).0,
          none_goes (IsOrdinary s) (λ route found i has is.
              no_end u (IsOrdinary s) c route.0 found.ordinary (lacks e known found i has)
              is.ordinary),
          some_goes (IsAlertOf alphabet s) one.0 one.1 parts.0 (λ route is. (counted route is).1),
        )
    receiver_by false false false e known f =
        none_goes (IsAlertOf alphabet s) (λ route found i has is.
        none_counted alphabet route.0 found.ordinary found.every is.ordinary is.further
        (lacks e known found i has) (decided e known found i has)
        (untold (λ g. is_end_if_any g.every) found f i has))

  -- ---- A report.

  pub lines_so : (receivers : List (Option ReceiverFinding)) (lines : List Line)
      → receivers ≡ map (receiver_finding routes) (range_with_len 0 (length c.receivers))
      → lines ≡ report_lines v c (map said_of routes) receivers
      → SaysOfRoutes alphabet s v c (map said_of routes) receivers lines
  lines_so receivers lines are lines_are =
      let all = range_with_len 0 (length c.receivers) in
      let said = map said_of routes in
      let IsTrueOf = IsReceiverFinding alphabet s c said in
      record {
        each_route = zip_mapped IsSo (IsSaid alphabet s v c) said_of (λ route found is. (
          is.path,
          is.receiver,
          finding_so s u v c route.0 alphabet found.ordinary found.every is.ordinary is.further,
        )) (all_routes c) routes so;
        each_receiver = subst (λ found. AllZip IsTrueOf all found) (sym are)
            (zip_own IsTrueOf (receiver_finding routes) (λ receiver.
            receiver_by receiver (list_any (has_ordinary receiver) routes)
            (list_any (has_undecided receiver) said) (list_any (has_other receiver) routes) refl refl
            refl) all);
        lines_are = lines_are;
      }
