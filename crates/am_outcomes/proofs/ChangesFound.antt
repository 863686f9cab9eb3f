-- What changes say: an alert is handled alike exactly if its outcome is no change, and the receivers
-- that lose or gain alerts are those that some change has on one side only.
use Rattle.std.proofs.Common.{◌≡◌, ℕ, Bool, true, false, cond, ◌&&◌, ◌||◌, List, [], ◌∷◌, map, length}
use Rattle.std.proofs.Common.{Option, Some, None, option_map, inl, inr, refl, ap, sym, ◌∙◌, arith}
use Rattle.std.specs.Prelude.{not, ◌==◌}
use Rattle.std.specs.List.{cons_option, filter_map, find}
use Rattle.std.proofs.lemmas.Bool.{and_parts, ne_eqb}
use lib.Pointwise.{pointwise}
use Rattle.am_universe.specs.LabelSet.{LabelMap}
use Rattle.am_universe.specs.Text.{same_text}
use Rattle.am_universe.proofs.ListLemmas.{IsIn, IsIn-map}
use Rattle.am_config.specs.ConfigFile.{Configuration, RouteTree, receiver_of, options_of}
use Rattle.am_eval.specs.Routing.{receivers}
use Rattle.am_report_texts.specs.ReceiverNames.{receiver_name, receiver_names}
use Rattle.am_differences.specs.Options.{same_options}
use Rattle.am_outcomes.specs.Configurations.{Pair}
use Rattle.am_outcomes.specs.Outcomes.{outcome_of}
use Rattle.am_outcomes.specs.Handling.{handling_routes, handle_alike, IsHandledAlike, same_names}
use Rattle.am_outcomes.specs.Handling.{route_pairs}
use Rattle.am_outcomes.specs.Changes.{is_change, first_on_one_side, is_only_among}
use Rattle.am_outcomes.proofs.AlikeRoutes.{pointwise_mapped, pointwise_both, differing_in}
use Rattle.am_outcomes.proofs.AlikeRoutes.{same_if_none_differs, none_differs_if_same}
use Rattle.am_outcomes.proofs.AlikeRoutes.{have_same_options}
use Rattle.am_outcomes.proofs.RoutePairs.{same_receiver, pairs_in_order}
use Rattle.am_outcomes.proofs.HandlerReceivers.{handler_receivers}

-- ---- Alerts that are handled alike.

module _ (old new : Configuration) (s : LabelMap) where
  abbrev names_are_same : Bool
  names_are_same =
      same_names (receiver_names old (receivers s old)) (receiver_names new (receivers s new))

  abbrev pairs : List (RouteTree × RouteTree)
  pairs = route_pairs old new (handling_routes s old) (handling_routes s new)

  abbrev same_in_order : RouteTree → RouteTree → Bool
  same_in_order r t = same_options (options_of r) (options_of t)

  names_by_routes : names_are_same
      ≡ pointwise (same_receiver old new) (handling_routes s old) (handling_routes s new)
  names_by_routes =
      ap (λ rs. same_names (receiver_names old rs) (receiver_names new (receivers s new)))
      (sym (handler_receivers s old))
      ∙ ap (λ rs. same_names (receiver_names old (map receiver_of (handling_routes s old)))
      (receiver_names new rs)) (sym (handler_receivers s new))
      ∙ pointwise_mapped (receiver_name old) (receiver_name new) same_text
      (map receiver_of (handling_routes s old)) (map receiver_of (handling_routes s new))
      ∙ pointwise_mapped receiver_of receiver_of
      (λ r t. same_text (receiver_name old r) (receiver_name new t)) (handling_routes s old)
      (handling_routes s new)

  alike_by_routes : pointwise (handle_alike old new) (handling_routes s old) (handling_routes s new)
      ≡ (names_are_same
      && pointwise same_in_order (handling_routes s old) (handling_routes s new))
  alike_by_routes =
      pointwise_both (same_receiver old new) same_in_order (handling_routes s old)
      (handling_routes s new)
      ∙ ap (λ b. b && pointwise same_in_order (handling_routes s old) (handling_routes s new))
      (sym names_by_routes)

  in_order : names_are_same ≡ true → have_same_options pairs
      ≡ pointwise same_in_order (handling_routes s old) (handling_routes s new)
  in_order same =
      pairs_in_order old new same_in_order (handling_routes s old) (handling_routes s new)
      (sym names_by_routes ∙ same)

  no_change_parts : (b : Bool) (ks : List ℕ)
      → (not b || not (length ks == 0)) ≡ false → (b ≡ true) × (ks ≡ [])
  no_change_parts true [] e = (refl, refl)
  no_change_parts true (k ∷ ks) e =
      let some : (length (k ∷ ks) == 0) ≡ false =
      ne_eqb (length (k ∷ ks)) 0 (λ z. absurd (omega (arith, z))) in
      let apart : true ≡ false = sym (ap not some) ∙ e in absurd (cc)
  no_change_parts false ks e = absurd (cc)

  no_change_from : (b : Bool) (ks : List ℕ) → b ≡ true → ks ≡ []
      → (not b || not (length ks == 0)) ≡ false
  no_change_from b ks same none = rw (same, none) refl

  pub alike_from_no_change : {C : Type 0} (first : C)
      → is_change old new (outcome_of (Pair old new) s, first) ≡ false → IsHandledAlike old new s
  alike_from_no_change first e =
      let parts = no_change_parts names_are_same (differing_in pairs) e in
      alike_by_routes
      ∙ (λ i. parts.0 i && (sym (in_order parts.0) ∙ same_if_none_differs pairs parts.1) i)

  pub no_change_from_alike : {C : Type 0} (first : C) → IsHandledAlike old new s
      → is_change old new (outcome_of (Pair old new) s, first) ≡ false
  no_change_from_alike first alike =
      let parts = and_parts names_are_same
      (pointwise same_in_order (handling_routes s old) (handling_routes s new))
      (sym alike_by_routes ∙ alike) in
      no_change_from names_are_same (differing_in pairs) parts.0
      (none_differs_if_same pairs (in_order parts.0 ∙ parts.1))

-- ---- Receivers that lose or gain alerts.

-- the first item that passes a test is one of them, and passes
module _ {X : Type 0} (test : X → Bool) where
  found_first : (b : Bool) (x y : X) (xs : List X) → test x ≡ b
      → (find test xs ≡ Some y → IsIn xs y × (test y ≡ true))
      → cond b (Some x) (find test xs) ≡ Some y → IsIn (x ∷ xs) y × (test y ≡ true)
  found_first true x y xs e later is =
      let same : x ≡ y = cc in (inl same, ap test (sym same) ∙ e)
  found_first false x y xs e later is = let r = later is in (inr r.0, r.1)

  find_in : (xs : List X) (y : X) → find test xs ≡ Some y → IsIn xs y × (test y ≡ true)
  find_in [] y e = absurd (cc)
  find_in (x ∷ xs) y e = found_first (test x) x y xs refl (find_in xs y) e

  -- if an item passes, there is a first one
  passes_first : (b : Bool) (x y : X) (xs : List X) → test x ≡ b → IsIn (x ∷ xs) y → test y ≡ true
      → (IsIn xs y → (z : X) × (find test xs ≡ Some z))
      → (z : X) × (cond b (Some x) (find test xs) ≡ Some z)
  passes_first true x y xs e i passes later = (x, refl)
  passes_first false x y xs e (inl same) passes later =
      let apart : false ≡ true = sym e ∙ ap test same ∙ passes in absurd cc
  passes_first false x y xs e (inr i) passes later = later i

  in_find : (xs : List X) (y : X) → IsIn xs y → test y ≡ true → (z : X) × (find test xs ≡ Some z)
  in_find [] y i passes = absurd i
  in_find (x ∷ xs) y i passes =
      passes_first (test x) x y xs refl i passes (λ later. in_find xs y later passes)

-- what is in the list of what a function gives comes from an item, and what it gives is there
module _ {X Y : Type 0} (f : X → Option Y) where
  given_first : (o : Option Y) (x : X) (xs : List X) (y : Y) → f x ≡ o
      → (IsIn (filter_map f xs) y → (z : X) × IsIn xs z × (f z ≡ Some y))
      → IsIn (cons_option o (filter_map f xs)) y → (z : X) × IsIn (x ∷ xs) z × (f z ≡ Some y)
  given_first None x xs y e later i = let r = later i in (r.0, inr r.1, r.2)
  given_first (Some w) x xs y e later (inl same) = (x, inl refl, e ∙ ap Some same)
  given_first (Some w) x xs y e later (inr i) = let r = later i in (r.0, inr r.1, r.2)

  given_by : (xs : List X) (y : Y) → IsIn (filter_map f xs) y
      → (x : X) × IsIn xs x × (f x ≡ Some y)
  given_by [] y i = absurd i
  given_by (x ∷ xs) y i = given_first (f x) x xs y refl (given_by xs y) i

  behind_given : (o : Option Y) (ys : List Y) (y : Y) → IsIn ys y → IsIn (cons_option o ys) y
  behind_given None ys y i = i
  behind_given (Some w) ys y i = inr i

  given_there : (xs : List X) (x : X) (y : Y) → IsIn xs x → f x ≡ Some y
      → IsIn (filter_map f xs) y
  given_there [] x y i e = absurd i
  given_there (z ∷ xs) x y (inl same) e =
      let here : f z ≡ Some y = ap f same ∙ e in rw here (inl refl)
  given_there (z ∷ xs) x y (inr i) e =
      behind_given (f z) (filter_map f xs) y (given_there xs x y i e)

-- the lists of a change, and what stands beside them
abbrev pub Change : Type 0 → Type 0
Change C = List (List ℕ) × C

module _ {C : Type 0} (names others : List (List ℕ) → List (List ℕ)) where
  abbrev has_only : List ℕ → Change C → Bool
  has_only name change = is_only_among (names change.0) (others change.0) name

  -- each receiver that is found stands with the choice of a change that has it on this side only
  pub only_from : (changes : List (Change C)) (receivers : List (List ℕ)) (found : List ℕ × C)
      → IsIn (first_on_one_side names others changes receivers) found
      → IsIn receivers found.0 × (change : Change C) × IsIn changes change
      × (change.1 ≡ found.1)
      × (is_only_among (names change.0) (others change.0) found.0 ≡ true)
  only_from changes receivers found i =
      let r = given_by (λ name. option_map (λ (change : Change C). (name, change.1))
      (find (has_only name) changes)) receivers found i in
      by r.0 r.1 (find (has_only r.0) changes) refl r.2
    where
      by : (name : List ℕ) → IsIn receivers name → (o : Option (Change C))
          → find (has_only name) changes ≡ o
          → option_map (λ (change : Change C). (name, change.1)) o ≡ Some found
          → IsIn receivers found.0 × (change : Change C) × IsIn changes change
          × (change.1 ≡ found.1)
          × (is_only_among (names change.0) (others change.0) found.0 ≡ true)
      by name there None e is = absurd cc
      by name there (Some change) e is =
          let same : (name, change.1) ≡ found = cc in
          let at = find_in (has_only name) changes change e in
          rw (← same) (there, change, at.0, refl, at.1)

  -- each receiver that some change has on this side only is found
  pub only_there : (changes : List (Change C)) (receivers : List (List ℕ)) (name : List ℕ)
      (change : Change C) → IsIn receivers name → IsIn changes change
      → is_only_among (names change.0) (others change.0) name ≡ true
      → IsIn (map (λ (f : List ℕ × C). f.0) (first_on_one_side names others changes receivers)) name
  only_there changes receivers name change there i only =
      let first = in_find (has_only name) changes change i only in
      IsIn-map (λ (f : List ℕ × C). f.0) (first_on_one_side names others changes receivers)
      (name, first.0.1)
      (given_there (λ name. option_map (λ (change : Change C). (name, change.1))
      (find (has_only name) changes)) receivers name (name, first.0.1) there
      (ap (option_map (λ (change : Change C). (name, change.1))) first.1))
