-- What the code finds over spaces that stand for alerts is true of these alerts.
use Rattle.std.proofs.Common.{◌≡◌, inl, inr, ℕ, ◌<◌, List, [], ◌∷◌, length}
use Rattle.std.proofs.Common.{Option, Some, None, refl, sym, subst, ◌∙◌}
use Rattle.std.specs.List.{AllByRecursion, AllZip}
use Rattle.am_universe.specs.Universe.{Label, sizes}
use Rattle.am_universe.proofs.ListLemmas.{IsIn, AllByRecursion-at, AllByRecursion-each}
use Rattle.am_labels.specs.Space.{Space}
use Rattle.am_config.specs.ConfigFile.{Configuration, RouteTree, IsConfig}
use Rattle.am_config.specs.RoutePaths.{all_routes}
use Rattle.am_eval.proofs.AbsentParts.{receiver_below}
use Rattle.am_classes.specs.declared.alphabet.Alphabet.{Alphabet}
use Rattle.am_classes.specs.declared.alphabet.Alphabet.TheVariants.{Unicode, Ascii}
use Rattle.am_every_alert.specs.EveryAlert.{IsAlertOf}
use Rattle.am_lint.specs.declared.arrival.Arrival.{Arrival}
use Rattle.am_lint.specs.declared.arrival.Arrival.TheVariants as arrival_is
use Rattle.am_lint.specs.declared.found.FoundRoute.{FoundRoute}
use Rattle.am_lint.specs.Table.{IsRoute}
use Rattle.am_eval.specs.Reaching.{IsSetOf}
use Rattle.am_lint.specs.Findings.{IsOrdinary}
use Rattle.am_lint.specs.FoundView.{finding_by, IsFoundIn, IsKnown, IsLookedAt, IsSameButEvery}
use Rattle.am_lint.specs.FoundView.{IsShownFinding, IsShown}
use Rattle.am_lint.specs.Arrival.{IsArrival}
use Rattle.am_lint.proofs.Transfer.{StandsForAlerts, arrival_over_as}
use Rattle.am_lint.proofs.TableLemmas.{zip_right, stands_at}
use Rattle.am_lint.proofs.FoundLemmas.{IsFurther, IsFoundSo}

-- ---- Lists, position by position.

-- what follows for the two items at each position
pub each_place : {X Y : Type 0} (R Q : X → Y → Type 0) (xs : List X) (ys : List Y)
    → ((x : X) (y : Y) → IsIn xs x → IsIn ys y → R x y → Q x y) → AllZip R xs ys → AllZip Q xs ys
each_place R Q [] [] each h = tt
each_place R Q (x ∷ xs) (y ∷ ys) each h = (
  each x y (inl refl) (inl refl) h.0,
  each_place R Q xs ys (λ v w i j. each v w (inr i) (inr j)) h.1,
)
each_place R Q xs ys each h = absurd h

each_second : {X Y : Type 0} (R : X → Y → Type 0) (P : Y → Type 0) (xs : List X) (ys : List Y)
    → ((x : X) (y : Y) → IsIn xs x → R x y → P y) → AllZip R xs ys → AllByRecursion P ys
each_second R P xs ys each h =
    AllByRecursion-each P ys (λ y i. let r = zip_right R xs ys y h i in each r.0 y r.1 r.2)

through : {X Y Z : Type 0} (R : X → Y → Type 0) (Q : Y → Z → Type 0) (xs : List X) (ys : List Y)
    (zs : List Z) → AllZip R xs ys → AllZip Q ys zs → AllZip (λ x z. (y : Y) × R x y × Q y z) xs zs
through R Q [] [] [] h k = tt
through R Q (x ∷ xs) (y ∷ ys) (z ∷ zs) h k = ((y, h.0, k.0), through R Q xs ys zs h.1 k.1)
through R Q xs [] (z ∷ zs) h k = absurd k
through R Q xs (y ∷ ys) [] h k = absurd k
through R Q [] (y ∷ ys) zs h k = absurd h
through R Q (x ∷ xs) [] zs h k = absurd h

-- ---- What is found.

module _ (s o : Space) (c : Configuration) (stands : StandsForAlerts Ascii o c)
    (same : o.impossible ≡ s.impossible) where
  ordinary_so : (route : List ℕ × RouteTree) (found : FoundRoute) → IsFoundIn o c route found
      → IsArrival o.labels (IsOrdinary s) c route.0 found.ordinary
  ordinary_so route found is =
      arrival_over_as Ascii o c stands s (sym same) route.0 found.ordinary is.2

  -- if only printable ASCII counts
  pub found_over_ascii : (v : List Label) (found : List FoundRoute)
      → AllZip (IsFoundIn o c) (all_routes c) found
      → AllByRecursion (λ route. route.every ≡ None) found
      → AllZip (IsFoundSo Ascii s o.labels v c) (all_routes c) found
  found_over_ascii v found is once =
      each_place (IsFoundIn o c) (IsFoundSo Ascii s o.labels v c) (all_routes c) found
      (λ x y i j h. record {
        path = h.0;
        receiver = h.1;
        ordinary = ordinary_so x y h;
        further = AllByRecursion-at (λ (z : FoundRoute). z.every ≡ None) found y once j;
      }) is

  -- if every alert counts
  module _ (e : Space) (every : StandsForAlerts Unicode e c)
      (also : e.impossible ≡ s.impossible) where
    known_so : (path : List ℕ) (further : Option Arrival)
        → IsKnown e.labels (IsSetOf e) c path further
        → IsKnown e.labels (IsAlertOf Unicode s) c path further
    known_so path None h = absurd h
    known_so path (Some arrival) h =
        arrival_over_as Unicode e c every s (sym also) path arrival h

    looked_so : (x : List ℕ × RouteTree) (y z : FoundRoute) → IsFoundIn o c x y
        → IsSameButEvery y z → IsLookedAt e c z.path z.ordinary z.every
        → IsFoundSo Unicode s o.labels e.labels c x z
    looked_so x y z is but looked =
        let at : z.path ≡ x.0 = but.0 ∙ is.0 in
        record {
          path = at;
          receiver = but.1 ∙ is.1;
          ordinary =
              subst (λ (st : Arrival). IsArrival o.labels (IsOrdinary s) c x.0 st) (sym but.2)
              (ordinary_so x y is);
          further = λ none. known_so x.0 z.every
              (subst (λ p. IsKnown e.labels (IsSetOf e) c p z.every) at (looked none));
        }

    pub found_over_unicode : (old new : List FoundRoute)
        → AllZip (IsFoundIn o c) (all_routes c) old → AllZip IsSameButEvery old new
        → AllByRecursion (λ route. IsLookedAt e c route.path route.ordinary route.every) new
        → AllZip (IsFoundSo Unicode s o.labels e.labels c) (all_routes c) new
    found_over_unicode old new is but looked =
        each_place (λ x z. (y : FoundRoute) × IsFoundIn o c x y × IsSameButEvery y z)
        (IsFoundSo Unicode s o.labels e.labels c) (all_routes c) new
        (λ x z i j h. looked_so x h.0 z h.1 h.2
        (AllByRecursion-at (λ (r : FoundRoute). IsLookedAt e c r.path r.ordinary r.every) new z
        looked j))
        (through (IsFoundIn o c) IsSameButEvery (all_routes c) old new is but)

-- ---- The routes that are found stand there, and what is shown of them is declared.

pub found_there : (o : Space) (c : Configuration) (found : List FoundRoute)
    → AllZip (IsFoundIn o c) (all_routes c) found
    → AllByRecursion (λ route. IsRoute c route.path) found
found_there o c found is =
    each_second (IsFoundIn o c) (λ route. IsRoute c route.path) (all_routes c) found
    (λ x y i h. subst (IsRoute c) (sym h.0) (x.1, stands_at c x i)) is

finding_shown : (a : Alphabet) (s : Space) (v : List Label) (c : Configuration) (path : List ℕ)
    (ordinary : Arrival) (every : Option Arrival)
    → IsFurther a s v c path ordinary every
    → IsShownFinding (sizes v) (finding_by ordinary every)
finding_shown a s v c path (arrival_is.Ends choice) every h = tt
finding_shown a s v c path (arrival_is.Undecided evidence) every h = tt
finding_shown a s v c path (arrival_is.HandsOn entry children) (Some (arrival_is.Undecided evidence))
    h = tt
finding_shown a s v c path (arrival_is.HandsOn entry children) every h = tt
finding_shown a s v c path (arrival_is.NeverEntered reason) None h = tt
finding_shown Ascii s v c path (arrival_is.NeverEntered reason) (Some arrival) h = absurd (cc)
finding_shown Unicode s v c path (arrival_is.NeverEntered reason)
    (Some (arrival_is.Ends choice)) h = (h refl).0
finding_shown Unicode s v c path (arrival_is.NeverEntered reason)
    (Some (arrival_is.HandsOn entry children)) h = (h refl).0.0
finding_shown Unicode s v c path (arrival_is.NeverEntered reason)
    (Some (arrival_is.NeverEntered other)) h = tt
finding_shown Unicode s v c path (arrival_is.NeverEntered reason)
    (Some (arrival_is.Undecided evidence)) h = tt

pub found_shown : (a : Alphabet) (s : Space) (u v : List Label) (c : Configuration)
    (found : List FoundRoute) → IsConfig c
    → AllZip (IsFoundSo a s u v c) (all_routes c) found
    → AllByRecursion (IsShown (sizes v) c) found
found_shown a s u v c found sound is =
    each_second (IsFoundSo a s u v c) (IsShown (sizes v) c) (all_routes c) found
    (λ x y i h. (
      finding_shown a s v c x.0 y.ordinary y.every h.further,
      subst (λ r. r < length c.receivers) (sym h.receiver)
          (receiver_below (length c.receivers) x.0 c.root x.1 sound.receivers_declared
          (stands_at c x i)),
    )) is
