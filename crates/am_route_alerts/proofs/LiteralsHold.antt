-- Where literals are true, said by the matchers of the routes that they are about; and which of them
-- are named.
use Rattle.std.proofs.Common.{◌≡◌, ℕ, zero, suc, ◌+◌, List, [], ◌∷◌, ◌++◌, Bool, true, false, not}
use Rattle.std.proofs.Common.{cond, map, ◌&&◌, ◌||◌, Some, take, drop, refl, ap, sym, ◌∙◌, subst}
use Rattle.std.proofs.Common.{slice_get, IsTrue, inl, inr, arith}
use Rattle.std.specs.List.{AllByRecursion, AllZip, filter, flat_map, list_any}
use Rattle.std.proofs.lemmas.Bool.{and_parts, cases_Bool, not-true}
use Rattle.std.proofs.lemmas.List.{take-append-drop}
use Rattle.std.proofs.lemmas.List.Folds.{list_all-append}
use Rattle.std.proofs.lemmas.Option.{same_Some}
use Rattle.am_universe.specs.LabelSet.{LabelMap, label_set_of}
use Rattle.am_universe.proofs.ListLemmas.{AllByRecursion-at}
use Rattle.am_universe.proofs.Members.{in_at}
use Rattle.am_labels.specs.Matcher.{Matcher, all_hold, condition_holds}
use Rattle.am_labels.specs.Space.{Space, IsChoiceOf}
use Rattle.am_config.specs.ConfigFile.{Configuration, RouteTree, matchers_of}
use Rattle.am_first_sets.specs.declared.candidate.Candidate.{Candidate}
use Rattle.am_first_sets.specs.Literals.{holds_at, hold_all, meets}
use Rattle.am_first_sets.specs.Reason.{AreNamedBefore, without}
use Rattle.am_first_sets.specs.Solving.{marked}
use Rattle.am_first_sets.proofs.CubeTruth.{matches_where}
use Rattle.am_first_sets.proofs.ReasonLemmas.{met_at}
use Rattle.am_route_alerts.specs.Implied.{negated, IsEachNeeded}
use Rattle.am_route_alerts.specs.Shortened.{all_but}
use Rattle.am_route_alerts.proofs.ImpliedLemmas.{opposite, opposite_holds, false_negated}
use Rattle.am_route_alerts.proofs.LiteralRoutes.{IsLiteralOf}
use Rattle.am_route_alerts.proofs.ZipLists.{zip_joined, zip_cut}

-- ---- The literals of routes.

module _ (s : Space) (c : Configuration) (choice : List ℕ) (possible : IsChoiceOf s choice) where
  pub matched_as : (wanted : Bool) (route : List ℕ × RouteTree) (k : Candidate)
      → IsLiteralOf s.labels c wanted route k
      → holds_at choice k
      ≡ cond wanted (all_hold (label_set_of s.labels choice) (matchers_of route.1))
      (not (all_hold (label_set_of s.labels choice) (matchers_of route.1)))
  matched_as wanted route k of =
      let is = matches_where s.labels choice possible.0 (matchers_of route.1) k.cube.now
      (of.1 choice possible.0.0) in
      λ i. cond (of.2 i) (is i) (not (is i))

  -- they are true where the label set matches all these routes
  pub wanted_hold : (routes : List (List ℕ × RouteTree)) (ks : List Candidate)
      → AllZip (IsLiteralOf s.labels c true) routes ks
      → hold_all choice ks
      ≡ all_hold (label_set_of s.labels choice) (flat_map (λ route. matchers_of route.1) routes)
  wanted_hold [] [] of = refl
  wanted_hold (route ∷ routes) (k ∷ ks) of =
      (λ i. matched_as true route k of.0 i && wanted_hold routes ks of.1 i)
      ∙ sym (list_all-append (condition_holds (label_set_of s.labels choice)) (matchers_of route.1)
      (flat_map (λ r. matchers_of r.1) routes))
  wanted_hold routes ks of = absurd of

-- ---- Literals that are named.

pub front_named : (n : ℕ) (ks : List Candidate) → AreNamedBefore n ks
    → AllByRecursion (λ (k : Candidate). IsTrue k.named) (take n ks)
front_named zero ks named = tt
front_named (suc n) [] named = tt
front_named (suc n) (k ∷ ks) named = (
  named 0 k refl (omega arith),
  front_named n ks (λ i l at lt. named (suc i) l at (omega (arith, lt))),
)

pub named_in_front : (n m : ℕ) (ks : List Candidate) → AreNamedBefore n ks
    → AreNamedBefore m (take n ks)
named_in_front n m ks named i k at lt =
    AllByRecursion-at (λ (l : Candidate). IsTrue l.named) (take n ks) k (front_named n ks named)
    (in_at (take n ks) i k at)

pub meets_all : (choice : List ℕ) (ks : List Candidate)
    → AllByRecursion (λ (k : Candidate). IsTrue k.named) ks → meets choice ks ≡ hold_all choice ks
meets_all choice [] named = refl
meets_all choice (k ∷ ks) named =
    rw (named.0) (ap (λ b. holds_at choice k && b) (meets_all choice ks named.1))

pub meets_named : (choice : List ℕ) (ks : List Candidate)
    → meets choice ks ≡ hold_all choice (filter (λ k. k.named) ks)
meets_named choice [] = refl
meets_named choice (k ∷ ks) = elim (cases_Bool k.named) [
  | inl named ↦ rw named (ap (λ b. holds_at choice k && b) (meets_named choice ks))
  | inr unnamed ↦ rw unnamed (meets_named choice ks)
]

pub meets_both : (choice : List ℕ) (ks ls : List Candidate)
    → meets choice (ks ++ ls) ≡ (meets choice ks && meets choice ls)
meets_both choice ks ls =
    list_all-append (λ (k : Candidate). not k.named || holds_at choice k) ks ls

pub meets_parts : (choice : List ℕ) (n : ℕ) (ks : List Candidate)
    → meets choice ks ≡ (meets choice (take n ks) && meets choice (drop n ks))
meets_parts choice n ks =
    ap (meets choice) (sym (take-append-drop n ks)) ∙ meets_both choice (take n ks) (drop n ks)

pub named_marked : {X : Type 0} (R : X → Candidate → Type 0) (xs : List X) (ks : List Candidate)
    → AllZip R xs ks
    → AllZip R (marked (map (λ (k : Candidate). k.named) ks) xs) (filter (λ k. k.named) ks)
named_marked R [] [] all = tt
named_marked R (x ∷ xs) (k ∷ ks) all = one k.named all.0 (named_marked R xs ks all.1)
  where
    one : (b : Bool) → R x k
        → AllZip R (marked (map (λ (l : Candidate). l.named) ks) xs) (filter (λ l. l.named) ks)
        → AllZip R (marked (b ∷ map (λ (l : Candidate). l.named) ks) (x ∷ xs))
        (cond b (k ∷ filter (λ l. l.named) ks) (filter (λ l. l.named) ks))
    one true here rest = (here, rest)
    one false here rest = rest
named_marked R xs ks all = absurd all

-- ---- A literal that is negated.

negated_behind : (n j : ℕ) (ks : List Candidate)
    → negated (n + j) ks ≡ take n ks ++ negated j (drop n ks)
negated_behind zero j ks = let same : 0 + j ≡ j = omega arith in ap (λ i. negated i ks) same
negated_behind (suc n) j [] = refl
negated_behind (suc n) j (k ∷ ks) =
    let same : suc n + j ≡ suc (n + j) = omega arith in
    ap (λ i. negated i (k ∷ ks)) same ∙ ap (λ rest. k ∷ rest) (negated_behind n j ks)

at_behind : (n j : ℕ) (ks : List Candidate) → slice_get ks (n + j) ≡ slice_get (drop n ks) j
at_behind zero j ks = let same : 0 + j ≡ j = omega arith in ap (slice_get ks) same
at_behind (suc n) j [] = refl
at_behind (suc n) j (k ∷ ks) =
    let same : suc n + j ≡ suc (n + j) = omega arith in
    ap (slice_get (k ∷ ks)) same ∙ at_behind n j ks

at_negated : (i : ℕ) (ks : List Candidate) (k : Candidate) → slice_get ks i ≡ Some k
    → slice_get (negated i ks) i ≡ Some (opposite k)
at_negated i [] k at = absurd (cc)
at_negated zero (l ∷ ks) k at = ap (λ m. Some (opposite m)) (same_Some l k at)
at_negated (suc i) (l ∷ ks) k at = at_negated i ks k at

but_next : {X : Type 0} (i : ℕ) (x : X) (xs : List X)
    → all_but (suc i) (x ∷ xs) ≡ x ∷ all_but i xs
but_next i x xs =
    let same : suc i + 1 ≡ suc (i + 1) = omega arith in
    ap (λ n. take (suc i) (x ∷ xs) ++ drop n (x ∷ xs)) same

-- where a named literal stands; without it, the other named ones stay
its_place : (ks : List Candidate) (i : ℕ) (k : Candidate)
    → slice_get (filter (λ l. l.named) ks) i ≡ Some k
    → (place : ℕ) × (slice_get ks place ≡ Some k) × IsTrue k.named
    × (filter (λ l. l.named) (without place ks) ≡ all_but i (filter (λ l. l.named) ks))
its_place [] i k at = absurd (cc)
its_place (l ∷ ks) i k at = one l.named i refl at (its_place ks)
  where
    kept : List Candidate
    kept = filter (λ m. m.named) ks

    Stands : List Candidate → ℕ → Candidate → Type 0
    Stands ms j m =
        (place : ℕ) × (slice_get ms place ≡ Some m) × IsTrue m.named
        × (filter (λ o. o.named) (without place ms) ≡ all_but j (filter (λ o. o.named) ms))

    one : (b : Bool) (i : ℕ) → l.named ≡ b → slice_get (cond b (l ∷ kept) kept) i ≡ Some k
        → ((j : ℕ) (m : Candidate) → slice_get kept j ≡ Some m → Stands ks j m)
        → Stands (l ∷ ks) i k
    one false i unnamed at later =
        let r = later i k at in (suc r.0, r.1, r.2, rw unnamed r.3)
    one true zero named at later =
        subst (Stands (l ∷ ks) 0) (same_Some l k at) (0, refl, named, rw named refl)
    one true (suc i) named at later =
        let r = later i k at in
        let others = filter (λ (m : Candidate). m.named) (without r.0 ks) in (
          suc r.0,
          r.1,
          r.2,
          ap (λ b. cond b (l ∷ others) others) named ∙ ap (λ ms. l ∷ ms) r.3
              ∙ sym (but_next i l kept)
              ∙ ap (λ b. all_but (suc i) (cond b (l ∷ kept) kept)) (sym named),
        )

-- a choice that fails one named literal behind the first ones, and meets the other named ones
pub needed_behind : (Is : List ℕ → Type 0) (n : ℕ) (ks : List Candidate) → IsEachNeeded Is n ks
    → (i : ℕ) (k : Candidate) → slice_get (filter (λ l. l.named) (drop n ks)) i ≡ Some k
    → (choice : List ℕ) × Is choice × (meets choice (take n ks) ≡ true)
    × (holds_at choice k ≡ false)
    × (hold_all choice (all_but i (filter (λ l. l.named) (drop n ks))) ≡ true)
needed_behind Is n ks needed i k at =
    let rest = drop n ks in
    let (place, there, named, others) = its_place rest i k at in
    let (choice, is, met) =
    needed (n + place) k (at_behind n place ks ∙ there) (omega arith) named in
    let parts = and_parts (meets choice (take n ks)) (meets choice (negated place rest))
    (sym (meets_both choice (take n ks) (negated place rest))
    ∙ ap (meets choice) (sym (negated_behind n place ks)) ∙ met) in
    let fails = not-true (holds_at choice k) (sym (opposite_holds choice k)
    ∙ met_at choice (negated place rest) place (opposite k) parts.1
    (at_negated place rest k there) named) in (
      choice,
      is,
      parts.0,
      fails,
      ap (hold_all choice) (sym others) ∙ sym (meets_named choice (without place rest))
          ∙ sym (false_negated choice place rest k there fails) ∙ parts.1,
    )

-- ---- Lists that match where the literals fail.

pub none_match : (choice : List ℕ) (set : LabelMap) (ks : List Candidate)
    (lists : List (List Matcher))
    → AllZip (λ k list. holds_at choice k ≡ not (all_hold set list)) ks lists
    → hold_all choice ks ≡ not (list_any (all_hold set) lists)
none_match choice set [] [] each = refl
none_match choice set (k ∷ ks) (list ∷ lists) each =
    (λ i. each.0 i && none_match choice set ks lists each.1 i)
    ∙ apart (all_hold set list) (list_any (all_hold set) lists)
  where
    apart : (a b : Bool) → (not a && not b) ≡ not (a || b)
    apart true b = refl
    apart false b = refl
none_match choice set ks lists each = absurd each

-- those at all positions but one
pub zip_but : {X Y : Type 0} (R : X → Y → Type 0) (i : ℕ) (xs : List X) (ys : List Y)
    → AllZip R xs ys → AllZip R (all_but i xs) (all_but i ys)
zip_but R i xs ys all =
    zip_joined R (take i xs) (drop (i + 1) xs) (take i ys) (drop (i + 1) ys)
    (zip_cut R i xs ys all).0 (zip_cut R (i + 1) xs ys all).1
